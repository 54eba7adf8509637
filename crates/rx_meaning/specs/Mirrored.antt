-- What a search in reverse is to tell.
use Rattle.std.specs.Prelude.{◌≡◌, ℕ, ◌+◌, ◌-◌, ◌≤◌, ◌==◌, if◌then◌else◌, Option, Some, None, Ok, List, length}
use Rattle.std.specs.Prelude.{slice_get, All}
use Rattle.std.specs.Option.{option_and_then}
use Rattle.std.specs.List.{list_any, range_with_len}
use Rattle.rx_spec.specs.Bytes.{AreBytes}
use Rattle.rx_spec.specs.Expressions.{Expression, IsLoopSafe}
use Rattle.rx_spec.specs.Ends.{ends}
use Rattle.rx_spec.specs.Queries.{Query, reading, HalfMatch}
use Rattle.rx_spec.specs.Found.{first_of}
use Rattle.rx_spec.specs.Joining.{back_from}
use Rattle.rx_plan.specs.Plans.{Plan, plan_build}
use Rattle.rx_spec.specs.declared.Direction.{Direction}
use Rattle.rx_meaning.specs.Preference.{build_half_search}

-- the start p of a match of an expression, pattern k, that ends exactly at a place, where there is one
abbrev pub start_if : ℕ → List ℕ → ℕ → ℕ → ℕ → Expression → Option HalfMatch
start_if t haystack end p k e =
    if list_any (λ j. j == end) (ends (reading Direction.Forward t haystack) e p)
    then Some (record { pattern = k; offset = p })
    else None

abbrev pub start_to_end : List Expression → ℕ → Query → ℕ → ℕ → Option HalfMatch
start_to_end es t q p k = option_and_then (start_if t q.haystack q.end p k) (slice_get es k)

-- the least start in the span of a match that ends exactly at the span's end, and there the lowest pattern
abbrev pub least_start : List Expression → ℕ → Query → Option HalfMatch
least_start es t q =
    first_of (λ p. first_of (λ k. start_to_end es t q p k) (range_with_len 0 (length es)))
    (range_with_len q.start (q.end + 1 - q.start))

-- An anchored search in reverse tells the least start of a match that ends where the span ends, and
-- there the lowest pattern.
abbrev pub MirroredSearch : Type 0
MirroredSearch = (p : Plan) (es : List Expression) (q : Query) (told : Option HalfMatch)
    → All IsLoopSafe es → AreBytes q.haystack → q.start ≤ q.end → q.end ≤ length q.haystack
    → build_half_search (plan_build p Direction.Reverse es) Direction.Reverse (back_from q q.end) ≡ Ok told
    → told ≡ least_start es p.line_terminator q

-- From an end that the forward search told, the search in reverse is neither refused nor meets a quit
-- byte: it tells the least start of a match that ends there, and the lowest pattern from that start.
abbrev pub StartOfEnd : Type 0
StartOfEnd = (p : Plan) (es : List Expression) (q : Query) (end : HalfMatch)
    → All IsLoopSafe es → AreBytes q.haystack → q.end ≤ length q.haystack
    → build_half_search (plan_build p Direction.Forward es) Direction.Forward q ≡ Ok (Some end)
    → build_half_search (plan_build p Direction.Reverse es) Direction.Reverse (back_from q end.offset)
    ≡ Ok (least_start es p.line_terminator (record q { end = end.offset }))

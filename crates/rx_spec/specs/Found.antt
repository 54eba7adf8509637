-- What a search finds: the leftmost match, and there the preferred one (leftmost-first, as Perl and RE2
-- have it, and not the longest, as POSIX has it).
use Rattle.std.specs.Prelude.{ℕ, ◌+◌, ◌-◌, Bool, true, ◌==◌, ◌&&◌, nat_le, nat_lt, if◌then◌else◌, Option, None, List}
use Rattle.std.specs.Prelude.{[], ◌∷◌, length, find, slice_get}
use Rattle.std.specs.Option.{option_or, option_map, option_and_then}
use Rattle.std.specs.List.{range_with_len}
use Rattle.rx_spec.specs.Looks.{Reading}
use Rattle.rx_spec.specs.Expressions.{Expression}
use Rattle.rx_spec.specs.Ends.{ends}
use Rattle.rx_spec.specs.Queries.{Anchored, Query, Match, reading}
use Rattle.rx_spec.specs.declared.Direction.{Direction}

-- whether a match of pattern k, of n, may begin at p
abbrev pub admits : Anchored → ℕ → ℕ → ℕ → Bool
admits Anchored.No start p k = true
admits Anchored.Yes start p k = p == start
admits (Anchored.Pattern pattern) start p k = (p == start) && (k == pattern)

abbrev pub admitted : Query → ℕ → ℕ → ℕ → Bool
admitted q n p k = nat_le q.start p && nat_le p q.end && nat_lt k n && admits q.mode q.start p k

-- the first success in a list
unfoldable pub first_of : {A B : Type 0} → (A → Option B) → List A → Option B
first_of f [] = None
first_of f (x ∷ xs) = option_or (f x) (first_of f xs)

-- the preferred end within the span of a match that begins at p
abbrev pub end_within : Reading → Expression → ℕ → ℕ → Option ℕ
end_within r e end p = find (λ j. nat_le j end) (ends r e p)

-- the match of an expression, pattern k, that begins at p and ends within the span
abbrev pub match_from : ℕ → Query → ℕ → ℕ → Expression → Option Match
match_from t q p k e =
    option_map (λ j. record { pattern = k; start = p; end = j })
    (end_within (reading Direction.Forward t q.haystack) e q.end p)

-- the match of pattern k that begins at p, where it is admitted and there is one
abbrev pub candidate : List Expression → ℕ → Query → ℕ → ℕ → Option Match
candidate es t q p k =
    if admitted q (length es) p k then option_and_then (match_from t q p k) (slice_get es k) else None

-- the least place where a match begins, there the lowest pattern, and of it the preferred end
abbrev pub found : List Expression → ℕ → Query → Option Match
found es t q =
    first_of (λ p. first_of (λ k. candidate es t q p k) (range_with_len 0 (length es)))
    (range_with_len q.start (q.end + 1 - q.start))

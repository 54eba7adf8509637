-- Pairs of tables that search for one literal and for nothing else.
use Rattle.std.specs.Prelude.{◌≡◌, ℕ, ◌+◌, ◌-◌, ◌<◌, ◌≤◌, List, ◌∷◌, length, Option, None, Ok, IfSome, option_map}
use Rattle.memchr.specs.Find.{IsFirst, OccursAt}
use Rattle.rx_spec.specs.Bytes.{AreBytes}
use Rattle.rx_spec.specs.HalfSearches.{HalfAnswer, walk}
use Rattle.rx_spec.specs.Joining.{join}
use Rattle.rx_spec.specs.Machines.{Label}
use Rattle.rx_spec.specs.Queries.{Anchored, IsFit, Match, Query}
use Rattle.rx_spec.specs.Starts.{start_error, start_row}
use Rattle.rx_spec.specs.Tables.{Table}
use Rattle.rx_spec.specs.declared.Direction.{Direction}
use Rattle.rx_search.specs.Labels.{IsFinal}
use Rattle.rx_search.specs.Walks.{units_left}

-- the first offset from `start` on at which the literal occurs and ends by `end`
abbrev pub IsFirstPlace : (haystack literal : List ℕ) → (start end : ℕ) → Option ℕ → Type 0
IsFirstPlace haystack literal start end place =
    IsFirst (OccursAt haystack literal) start (end + 1 - length literal) place

-- the match of a pattern that is a literal of this length, at a place
abbrev pub literal_match : (pattern len at : ℕ) → Match
literal_match pattern len at = record { pattern = pattern; start = at; end = at + len }

-- Each search that may begin anywhere answers where the literal first lies in the span.
abbrev pub SearchesFor : (forward reverse : Table) → (literal : List ℕ) → (pattern : ℕ) → Type 0
SearchesFor forward reverse literal pattern =
    (q : Query) → IsFit q → AreBytes q.haystack → q.mode ≡ Anchored.No → (place : Option ℕ)
    → IsFirstPlace q.haystack literal q.start q.end place
    → join forward reverse q ≡ Ok (option_map (literal_match pattern (length literal)) place)

-- ---- what is asked of the tables

-- beside a byte or none a search in a mode starts at a row
pub record StartsBeside (t : Table) (mode : Anchored) (beside : Option ℕ) (row : ℕ) : Type 0 where
  pub allowed : start_error t.settings beside mode ≡ None
  pub row_is : row ≡ start_row t.machine t.settings beside mode

-- whatever stands beside its span
abbrev pub StartsAt : Table → Anchored → (row : ℕ) → Type 0
StartsAt t mode row =
    (beside : Option ℕ) → IfSome beside (λ byte. byte < 256) → StartsBeside t mode beside row

-- every unit leads from a row to another
abbrev pub LeadsOnlyTo : Table → (row to : ℕ) → Type 0
LeadsOnlyTo t row to = (unit : ℕ) → unit < 257 → t.machine.next row unit ≡ to

-- at a row a walk tells one match of the pattern, whatever it reads, and nothing behind it
pub record Tells (t : Table) (row pattern : ℕ) : Type 0 where
  pub told : ℕ
  pub leads : LeadsOnlyTo t row told
  pub others : List ℕ
  pub label : t.machine.label told ≡ Label.Matches (pattern ∷ others)
  pub is_final : IsFinal t told

-- a literal lies in the span of a query
pub record Lies (q : Query) (literal : List ℕ) (at : ℕ) : Type 0 where
  pub fits : q.end ≤ length q.haystack
  pub low : q.start ≤ at
  pub high : at + length literal ≤ q.end
  pub bytes : AreBytes q.haystack
  pub occurs : OccursAt q.haystack literal at

-- a walk in reverse over what is left of a span
abbrev pub back_walk : Table → Query → (row offset : ℕ) → HalfAnswer
back_walk t q row offset =
    walk t.machine Direction.Reverse q.earliest row offset None (units_left Direction.Reverse q offset)

-- such a walk comes from a row behind the literal to another row where `left` of its first bytes are left, and tells
-- nothing on the way
abbrev pub LeadsBack : Table → (literal : List ℕ) → (start left row : ℕ) → Type 0
LeadsBack t literal start left row =
    (q : Query) (at : ℕ) → Lies q literal at
    → back_walk t q start (at + length literal) ≡ back_walk t q row (at + left)

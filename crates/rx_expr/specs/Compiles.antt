-- The rows that each function of the compiler adds.
use Rattle.std.specs.Prelude.{ℕ, zero, suc, ◌≡◌, ◌==◌, ◌+◌, length, sum_by, Bool, true, false, Option, Some, None}
use Rattle.std.specs.Prelude.{List, [], ◌∷◌, ◌++◌, map}
use Rattle.std.specs.List.{list_all}
use Rattle.rx_spec.specs.Causes.{NfaCause, NfaFits, NfaRefused}
use Rattle.rx_spec.specs.Edge.{begins_with_edge}
use Rattle.rx_spec.specs.Expressions.{Expression}
use Rattle.rx_spec.specs.Rows.{Maker, compile, rows_count}
use Rattle.rx_spec.specs.Nfas.{Nfa, Patterns, read_as, patterns_from, start_of_all, nfa_of}
use Rattle.rx_spec.specs.declared.Direction.{Direction}
use Rattle.rx_expr.specs.Settings.{Asked, settled}
use Rattle.rx_expr.specs.declared.thompson.build_error.BuildError.{BuildError}
use Rattle.rx_expr.specs.NfaRows.{row_of}
use Rattle.rx_expr.specs.declared.thompson.nfa.Row.{Row}

-- what makes an expression's rows, read forward or backward
abbrev pub maker : Direction → Expression → Maker
maker direction e = compile (read_as direction e)

-- a row was added at the end, and has that id
pub record AddsRow (row : Row) (old new : List Row) (entry : ℕ) : Type 0 where
  pub id : entry ≡ length old
  pub rows : new ≡ old ++ row ∷ []

-- the rows that are made for `next` were added, and are entered so
pub record Adds (make : Maker) (old new : List Row) (next entry : ℕ) : Type 0 where
  pub entered : entry ≡ (make (length old) next).entry
  pub rows : map row_of new ≡ map row_of old ++ (make (length old) next).rows

-- a repetition of no round
abbrev pub has_no_round : Option ℕ → Bool
has_no_round None = false
has_no_round (Some most) = most == 0

-- the rows of all patterns, and of the Splits that join their starts
abbrev pub patterns_count : List Expression → ℕ
patterns_count es = sum_by (λ e. 1 + rows_count e) es

abbrev pub joined_count : ℕ → ℕ
joined_count zero = 1
joined_count (suc n) = n

-- whether every expression must begin with the edge where reading begins
abbrev pub all_at_edge : Direction → List Expression → Bool
all_at_edge direction es = list_all (λ e. begins_with_edge direction (read_as direction e)) es

abbrev pub lead_count : Bool → ℕ
lead_count true = 0
lead_count false = 2

-- the NFA that is asked for
abbrev pub wanted_nfa : Asked → List Expression → Nfa
wanted_nfa a es = nfa_of (settled a).direction (settled a).line_terminator (settled a).is_utf8 es

-- nothing refuses it
abbrev pub Fits : Asked → List Expression → Type 0
Fits a es = NfaFits (settled a).size_limit (length es) (wanted_nfa a es)

-- the cause that an error names, where it isn't the want of memory
abbrev pub SaysCause : (NfaCause → Type 0) → BuildError → Type 0
SaysCause Refused (BuildError.TooManyPatterns given) = Refused (NfaCause.TooManyPatterns given)
SaysCause Refused (BuildError.TooManyStates given) = Refused (NfaCause.TooManyStates given)
SaysCause Refused (BuildError.ExceededSizeLimit limit) = Refused (NfaCause.ExceededSizeLimit limit)
SaysCause Refused BuildError.Memory = Unit {0}

-- what an error says: the first of the causes that holds, or nothing where memory ran out
abbrev pub Refuses : Asked → List Expression → BuildError → Type 0
Refuses a es = SaysCause (NfaRefused (settled a).size_limit (length es) (wanted_nfa a es))

-- the Splits that join the starts of all patterns were added, and are entered so
pub record AddsJoined (starts : List ℕ) (old new : List Row) (entry : ℕ) : Type 0 where
  pub entered : entry ≡ (start_of_all (length old) starts).entry
  pub rows : map row_of new ≡ map row_of old ++ (start_of_all (length old) starts).rows

-- the rows and starts of all patterns, read forward or backward, and that they were added to none
abbrev pub patterns_of : Direction → List Expression → Patterns
patterns_of direction es = patterns_from 0 0 (map (read_as direction) es)

pub record AddsPatterns (direction : Direction) (es : List Expression) (rows : List Row) (starts : List ℕ)
    : Type 0 where
  pub rows_are : map row_of rows ≡ (patterns_of direction es).rows
  pub starts_are : starts ≡ (patterns_of direction es).entries

-- The lead-in: the rows of the unanchored start, with which most states of an unanchored search end, and which of them
-- must be written.
use Rattle.std.specs.Prelude.{ℕ, ◌≡◌, ◌==◌, Bool, true, false, if◌then◌else◌, List, [], ◌∷◌, ◌++◌}
use Rattle.std.specs.List.{list_any}
use Rattle.std.specs.Str.{bytes_eq}
use Rattle.rx_spec.specs.Nfas.{Nfa, is_always_start_anchored}
use Rattle.rx_spec.specs.States.{Standing}
use Rattle.rx_spec.specs.Closures.{closed_rows}

-- The rows of the unanchored start. Where every search is anchored there is no lead-in.
abbrev pub lead_of : Nfa → List ℕ
lead_of nfa =
    if is_always_start_anchored nfa then [] else closed_rows nfa.rows Standing (nfa.start_unanchored ∷ [])

-- a list without the members of another
unfoldable pub without : List ℕ → List ℕ → List ℕ
without seen [] = []
without seen (x ∷ xs) = if list_any (λ y. x == y) seen then without seen xs else (x ∷ without seen xs)

-- own rows, and behind them the lead-in's others
abbrev pub led : List ℕ → List ℕ → List ℕ
led own lead = own ++ without own lead

-- rows as they are written: the own ones, and whether the lead-in's others follow
pub record Written : Type 0 where
  pub is_led : Bool
  pub own : List ℕ

abbrev pub written_as : Bool → List ℕ → Written
written_as is_led own = record { is_led = is_led; own = own }

-- the rows that are written so
abbrev pub rows_by : List ℕ → Bool → List ℕ → List ℕ
rows_by lead is_led own = if is_led then led own lead else own

-- the least front behind which the lead-in's others follow, where some front of the rows is such, and else all of them
unfoldable pub split_by : (lead front rows : List ℕ) → Written
split_by lead front [] = written_as (bytes_eq (without front lead) []) front
split_by lead front (x ∷ rest) =
    if bytes_eq (without front lead) (x ∷ rest) then written_as true front else split_by lead (front ++ x ∷ []) rest

-- how rows are written
abbrev pub written : List ℕ → List ℕ → Written
written [] rows = written_as false rows
written (x ∷ lead) rows = split_by (x ∷ lead) [] rows

-- No row can be left out at the end: it would come again at once.
pub record IsLeast (lead own : List ℕ) : Type 0 where
  pub least : (front : List ℕ) (x : ℕ) → own ≡ front ++ x ∷ [] → without front lead ≡ x ∷ without own lead → ⊥

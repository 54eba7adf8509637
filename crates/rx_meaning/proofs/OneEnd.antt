-- What states give for exactly one place: which pattern, if any, matches up to it. A step keeps what later places
-- are given, and its label's first pattern is what this place is given.
use Rattle.rx_spec.proofs.Prelude.{common_steps, ◌≡◌, ℕ, ◌+◌, ◌<◌, ◌==◌, true, if◌then◌else◌, Option, Some, None, List}
use Rattle.rx_spec.proofs.Prelude.{[], ◌∷◌, arith, eq-eqb, eqb-true, slice_get, Contains, get_or, list_any, first_of}
use Rattle.rx_spec.proofs.Prelude.{State, is_dead_state}
use Rattle.std.proofs.lemmas.List.Folds.{Any-from_list_any, list_any_at}
use Rattle.rx_lemmas.proofs.ReadUnits.{unit_at}
use Rattle.rx_meaning.proofs.FirstSuccess.{first_of-nil, first_of-cons}
use Rattle.rx_meaning.proofs.Solution.{given, given_none}
use Rattle.rx_meaning.proofs.Closures.{first_given}
use Rattle.rx_meaning.proofs.Scan.{Scan, read_in, valued, StandsAt, step_at}
use Rattle.rx_meaning.proofs.Steps.{label_worth, label_head, CutsNothing, step_later, step_here}

-- a match is worth its pattern, at exactly one place
abbrev pub exactly : ℕ → ℕ → ℕ → Option ℕ
exactly place k i = if i == place then Some k else None

-- of ends, whether the place is one of them
pub ends_exactly : (place k : ℕ) (xs : List ℕ)
    → first_of (λ j. exactly place k j) xs ≡ (if list_any (λ j. j == place) xs then Some k else None)
ends_exactly place k [] = first_of-nil (λ (j : ℕ). exactly place k j)
ends_exactly place k (x ∷ xs) = grind (arith, common_steps, first_of-cons, ends_exactly place k xs)

pub any_end : (place : ℕ) (xs : List ℕ) → list_any (λ j. j == place) xs ≡ true → Contains xs place
any_end place xs h = grind (arith, common_steps, Any-from_list_any, eqb-true)

pub end_any : (place : ℕ) (xs : List ℕ) → Contains xs place → list_any (λ j. j == place) xs ≡ true
end_any place xs (i, within, e) = list_any_at (λ j. j == place) xs i place within (eq-eqb (get_or xs i place) place e)

-- what a label is worth at its place is its first pattern
label_exactly : (i : ℕ) (ks : List ℕ) → label_worth (exactly i) i ks ≡ slice_get ks 0
label_exactly i [] = first_of-nil (λ (k : ℕ). exactly i k i)
label_exactly i (k ∷ ks) = grind (arith, common_steps, first_of-cons)

module _ (c : Scan) where
  -- what a state gives for a place
  abbrev pub tells : State → ℕ → ℕ → Option ℕ
  tells s i place = first_given (valued c (exactly place)) i s.rows

  pub dead_tells : (s : State) (i place : ℕ) → is_dead_state s ≡ true → tells s i place ≡ None
  dead_tells s i place d = grind (arith, common_steps, first_of-nil)

  pub tells_here : (s : State) (i : ℕ) → StandsAt c s i → slice_get (step_at c s i).label 0 ≡ tells s i i
  tells_here s i at = grind (arith, common_steps, valued, given, given_none, label_head, label_exactly, step_here)

  pub tells_later : (s : State) (i place : ℕ) → StandsAt c s i → i < place
      → CutsNothing c.build.nfa c.build.kind s (unit_at (read_in c) i)
      → tells (step_at c s i) (i + 1) place ≡ tells s i place
  tells_later s i place at h whole = grind (arith, common_steps, step_later)

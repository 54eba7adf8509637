-- The searches that list a closure, one from each given row.
use Rattle.std.specs.Prelude.{ℕ, ◌≡◌, ◌+◌, ◌<◌, ◌≤◌, ◌==◌, ◌++◌, true, List, [], ◌∷◌, length, reverse, Option}
use Rattle.std.specs.Prelude.{option_to_list}
use Rattle.std.specs.List.{list_any, AllByRecursion as Every}
use Rattle.rx_spec.specs.Causes.{id_count}
use Rattle.rx_spec.specs.Rows.{Row}
use Rattle.rx_spec.specs.States.{Passing, closure}
use Rattle.rx_stepper.specs.Stamps.{is_met, unmet}

-- without reading a byte a row reaches itself alone
abbrev pub ReachesItself : List Row → ℕ → Type 0
ReachesItself rows q = (pass : Passing) → closure rows pass q ≡ q ∷ []

-- Between two searches: what is listed was met, and what a row that was met reaches is listed.
pub record IsSearched (rows : List Row) (pass : Passing) (stamps : List ℕ) (now : ℕ) (found : List ℕ) : Type 0 where
  pub met : (q : ℕ) → list_any (λ x. q == x) found ≡ true → is_met stamps now q ≡ true
  pub listed : (p : ℕ) → is_met stamps now p ≡ true → (q : ℕ) → list_any (λ x. q == x) (closure rows pass p) ≡ true
      → list_any (λ x. q == x) found ≡ true
  pub ids : Every (λ q. q < id_count) found
  pub room : length found + unmet stamps now ≤ length rows

-- the rows that a search is still to look at: the one in hand, and then the stack from its top
abbrev pub in_turn : Option ℕ → List ℕ → List ℕ
in_turn hand stack = option_to_list hand ++ reverse stack

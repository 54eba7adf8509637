-- Numbers for labels, one for each label of some row.
use Rattle.std.specs.Prelude.{ℕ, ◌≡◌, ◌↔◌, ◌<◌, ◌+◌, ◌⊎◌, Some, List, [], ◌∷◌, ◌++◌, slice_get, slice_index}
use Rattle.rx_spec.specs.Machines.{Label}
use Rattle.rx_spec.specs.Tables.{Table}

-- what tells nothing has number 0, quit number 1, and a list of patterns a number by its place among the lists
abbrev pub HasNumber : List (List ℕ) → Label → ℕ → Type 0
HasNumber lists Label.Plain number = number ≡ 0
HasNumber lists Label.Quits number = number ≡ 1
HasNumber lists (Label.Matches patterns) number =
    (place : ℕ) × (number ≡ 2 + place) × (slice_get lists place ≡ Some patterns)

-- the patterns of a match row are added to the lists, where they aren't there yet
abbrev pub AddsPatterns : List (List ℕ) → Label → List (List ℕ) → Type 0
AddsPatterns old (Label.Matches patterns) new = (new ≡ old) ⊎ (new ≡ old ++ patterns ∷ [])
AddsPatterns old _ new = new ≡ old

pub record AddsLabel (old : List (List ℕ)) (label : Label) (number : ℕ) (new : List (List ℕ)) : Type 0 where
  pub added : AddsPatterns old label new
  pub number_is : HasNumber new label number

-- rows have one number exactly where they have one label
abbrev pub AreByLabel : Table → List ℕ → Type 0
AreByLabel t labels = (x y : ℕ) → x < t.size → y < t.size
    → (slice_index labels x ≡ slice_index labels y) ↔ (t.machine.label x ≡ t.machine.label y)

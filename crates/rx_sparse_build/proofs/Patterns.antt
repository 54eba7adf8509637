-- The patterns that a row tells, by its label: what a match row has, and no other.
use Rattle.rx_spec.proofs.Prelude.{◌≡◌, ℕ, Bool, true, false, List, [], ◌∷◌, length, refl, if◌then◌else◌, Label}
use Rattle.rx_spec.proofs.Prelude.{label_of}

-- the label of a row that is a match row or not, and quit or not, and the patterns that are kept for it
abbrev pub told : Bool → Bool → List ℕ → Label
told matches quits ks = if matches then Label.Matches ks else (if quits then Label.Quits else Label.Plain)

abbrev pub kept : Bool → List ℕ → List ℕ
kept matches ks = if matches then ks else []

-- how many patterns a label names
abbrev pub named : Label → ℕ
named (Label.Matches ks) = length ks
named _ = 0

-- as many are kept as the label names
pub kept_named : (matches quits : Bool) (ks : List ℕ) → length (kept matches ks) ≡ named (told matches quits ks)
kept_named true quits ks = refl
kept_named false true ks = refl
kept_named false false ks = refl

-- a label of patterns names these
pub named_label : (ks : List ℕ) → named (label_of ks) ≡ length ks
named_label [] = refl
named_label (k ∷ ks) = refl

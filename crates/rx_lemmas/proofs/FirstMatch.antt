-- Where a list of rows is cut: after its first match row. And the patterns of rows that are no match rows.
use Rattle.rx_spec.proofs.Prelude.{◌≡◌, ℕ, true, false, List, [], ◌∷◌, refl, Row, row_at, is_match_row, pattern_of}
use Rattle.rx_spec.proofs.Prelude.{to_first_match}

pub first_here : (rows : List Row) (q : ℕ) (qs : List ℕ) → is_match_row (row_at rows q) ≡ true
    → to_first_match rows (q ∷ qs) ≡ q ∷ []
unfolding to_first_match
first_here rows q qs h = rw h refl

pub first_later : (rows : List Row) (q : ℕ) (qs : List ℕ) → is_match_row (row_at rows q) ≡ false
    → to_first_match rows (q ∷ qs) ≡ q ∷ to_first_match rows qs
unfolding to_first_match
first_later rows q qs h = rw h refl

pub first_none : (rows : List Row) → to_first_match rows [] ≡ []
unfolding to_first_match
first_none rows = refl

pub pattern_of-none : (row : Row) → is_match_row row ≡ false → pattern_of row ≡ []
pattern_of-none (Row.Match pattern) e = absurd (cc)
pattern_of-none _ e = refl

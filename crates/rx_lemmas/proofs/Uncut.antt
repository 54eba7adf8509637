-- How far the first match stands in a list of rows that is gone through by an index.
use Rattle.rx_spec.proofs.Prelude.{arith, ◌≡◌, ℕ, ◌+◌, ◌<◌, ◌≤◌, true, false, List, [], ◌++◌, length, get_or, take}
use Rattle.rx_spec.proofs.Prelude.{drop, common_steps, Row, row_at, is_match_row, to_first_match}
use Rattle.rx_lemmas.proofs.FirstMatch.{first_here, first_later, first_none}

-- none of the first i rows matches
pub record IsUncut (rows : List Row) (xs : List ℕ) (i : ℕ) : Type 0 where
  pub whole : take i xs ++ to_first_match rows (drop i xs) ≡ to_first_match rows xs

pub uncut_more : {rows : List Row} {xs : List ℕ} {i q : ℕ} → i < length xs → q ≡ get_or xs i q
    → is_match_row (row_at rows q) ≡ false → IsUncut rows xs i → IsUncut rows xs (i + 1)
uncut_more {rows} {xs} {i} {q} lt is no_match uncut = grind (arith, common_steps, first_later)

pub cut_here : {rows : List Row} {xs : List ℕ} {i q : ℕ} → i < length xs → q ≡ get_or xs i q
    → is_match_row (row_at rows q) ≡ true → IsUncut rows xs i → take (i + 1) xs ≡ to_first_match rows xs
cut_here {rows} {xs} {i} {q} lt is match uncut = grind (arith, common_steps, first_here)

pub cut_nowhere : {rows : List Row} {xs : List ℕ} {i : ℕ} → length xs ≤ i → IsUncut rows xs i
    → xs ≡ to_first_match rows xs
cut_nowhere {rows} {xs} {i} le uncut = grind (arith, common_steps, first_none)

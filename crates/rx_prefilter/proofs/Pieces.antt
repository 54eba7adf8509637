-- Two pieces of a literal that are compared: its first bytes, and as many that end at a place.
use Rattle.rx_spec.proofs.Prelude.{common_steps, ◌≡◌, ℕ, ◌+◌, ◌-◌, ◌<◌, ◌≤◌, List, length, take, drop, slice_index, ap}
use Rattle.rx_spec.proofs.Prelude.{sym, ◌∙◌, arith, length-take-le, ext_get_or, get_or-take}

module _ (literal : List ℕ) {k len : ℕ} (some : 0 < len) (few : len ≤ k + 1) (within : k < length literal) where
  -- the one that ends there
  abbrev pub ending : List ℕ
  ending = take (k - (k + 1 - len)) (drop (k + 1 - len) literal)

  ending_at : (i : ℕ) → i + 1 < len → slice_index ending i ≡ slice_index literal (k + 1 - len + i)
  ending_at i h = grind (arith, common_steps)

  first_at : (i : ℕ) → i + 1 < len → slice_index (take (len - 1) literal) i ≡ slice_index literal i
  first_at i h = get_or-take (len - 1) literal i 0 (omega arith)

  pub by_bytes : ending ≡ take (len - 1) literal → (i : ℕ) → i + 1 < len
      → slice_index literal (k + 1 - len + i) ≡ slice_index literal i
  by_bytes same i h = sym (ending_at i h) ∙ ap (λ (l : List ℕ). slice_index l i) same ∙ first_at i h

  ending_len : length ending ≡ len - 1
  ending_len = grind (arith, common_steps)

  first_len : length (take (len - 1) literal) ≡ len - 1
  first_len = length-take-le (len - 1) literal (omega arith)

  pub as_pieces : ((i : ℕ) → i + 1 < len → slice_index literal (k + 1 - len + i) ≡ slice_index literal i)
      → ending ≡ take (len - 1) literal
  as_pieces same =
      ext_get_or 0 ending (take (len - 1) literal) (ending_len ∙ sym first_len)
      (λ i h.
      let n = ending_len in
      let low : i + 1 < len = omega arith in
      ending_at i low ∙ same i low ∙ sym (first_at i low))

-- A byte's bit in the words of a set.
use Rattle.rx_spec.proofs.Prelude.{common_steps, ◌≡◌, ℕ, ◌+◌, ◌-◌, ◌*◌, ◌^◌, ◌/◌, ◌%◌, ◌<◌, ◌≤◌, ◌==◌, List, bit_and}
use Rattle.rx_spec.proofs.Prelude.{ap₂, sym, ◌∙◌, arith, ⊎_elim, cases_lt, nat_tests, bit_at, slice_index, contains}
use Rattle.std.proofs.lemmas.Nat.Bits.{bit_at_cat_low, bit_at_cat_high}
use Rattle.rx_stepper.specs.ByteWords.{set_of_words}

module _ (words : List ℕ) (fits : (k : ℕ) → slice_index words k < 2 ^ 64) (b : ℕ) where
  abbrev word : ℕ → ℕ
  word k = slice_index words k

  abbrev low : ℕ
  low = word 1 * 2 ^ 64 + word 0

  abbrev high : ℕ
  high = word 3 * 2 ^ 64 + word 2

  -- the bit of a byte in its word
  at : (k r : ℕ) → b / 64 ≡ k → b % 64 ≡ r → bit_at (word (b / 64)) (b % 64) ≡ bit_at (word k) r
  at k r e f = ap₂ (λ i j. bit_at (word i) j) e f

  low_fits : low < 2 ^ 128
  low_fits = omega arith

  in_low : b < 128 → bit_at low b ≡ bit_at (word (b / 64)) (b % 64)
  in_low h =
      ⊎_elim
      (λ (l : b < 64). bit_at_cat_low (word 1) 64 (word 0) b l ∙ sym (at 0 b (omega arith) (omega arith)))
      (λ (l : 64 ≤ b).
      bit_at_cat_high (word 1) 64 (word 0) b (fits 0) l ∙ sym (at 1 (b - 64) (omega arith) (omega arith)))
      (cases_lt b 64)

  in_high : 128 ≤ b → b < 256 → bit_at high (b - 128) ≡ bit_at (word (b / 64)) (b % 64)
  in_high h below =
      ⊎_elim
      (λ (l : b < 192).
      bit_at_cat_low (word 3) 64 (word 2) (b - 128) (omega arith)
      ∙ sym (at 2 (b - 128) (omega arith) (omega arith)))
      (λ (l : 192 ≤ b).
      bit_at_cat_high (word 3) 64 (word 2) (b - 128) (fits 2) (omega arith)
      ∙ sym (at 3 (b - 128 - 64) (omega arith) (omega arith)))
      (cases_lt b 192)

  in_word : b < 256 → bit_at (set_of_words words) b ≡ bit_at (word (b / 64)) (b % 64)
  in_word below =
      ⊎_elim
      (λ (l : b < 128). bit_at_cat_low high 128 low b l ∙ in_low l)
      (λ (l : 128 ≤ b). bit_at_cat_high high 128 low b low_fits l ∙ in_high l below)
      (cases_lt b 128)

  pub byte_there : {place : ℕ} → b < 256 → place ≡ b / 64
      → (bit_and (slice_index words place / 2 ^ (b % 64)) 1 == 1) ≡ contains (set_of_words words) b
  byte_there {place} below e = grind (arith, common_steps, nat_tests, in_word)

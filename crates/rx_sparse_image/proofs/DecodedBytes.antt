-- Bytes that were decoded are the bytes of what was decoded: numbers, ends of ranges, and next ids.
use Rattle.rx_spec.proofs.Prelude.{common_steps, [], ◌≡◌, ℕ, zero, suc, ◌+◌, ◌-◌, ◌*◌, ◌^◌, ◌<◌, ◌≤◌, List, ◌∷◌, ◌++◌}
use Rattle.rx_spec.proofs.Prelude.{length, take, drop, map, get_or, slice_index, refl, ap, ap₂, sym, ◌∙◌, arith}
use Rattle.rx_spec.proofs.Prelude.{length-drop, drop-cons, range_with_len, w16, w32, take-add, drop-drop}
use Rattle.rx_spec.proofs.Prelude.{length-take-le, All-drop, All-from_get_or, All-take, map-range_with_len_more}
use Rattle.rx_spec.proofs.Prelude.{AreBytes}
use Rattle.std.proofs.Common.{Fits, w8}
use Rattle.std.proofs.lemmas.List.{drop-take, take-take}
use Rattle.std.proofs.lemmas.Nat.{be_bytes_2, be_bytes_4, le_bytes_2, le_bytes_4}
use Rattle.rx_wire.specs.declared.order.Order.{Order}
use Rattle.rx_wire.specs.Fields.{field, number}
use Rattle.rx_sparse.specs.Rows.{ends_text, range_in, word_at, words_in, words_text}
use Rattle.rx_sparse.proofs.RowTexts.{pairs_text}

-- ---- numbers

-- what a slice of bytes tells of its items
pub are_bytes : (bytes : List ℕ) → ((i : ℕ) → Fits w8 (get_or bytes i 0)) → AreBytes bytes
are_bytes bytes fit = All-from_get_or (λ b. b < 256) bytes 0 (λ i h. omega (arith, fit i))

-- past the end too
pub byte_below : (bytes : List ℕ) → AreBytes bytes → (i : ℕ) → get_or bytes i 0 < 256
byte_below bytes are i = grind (arith, common_steps)

-- the bytes of the number of two bytes are these
pub field16_is : (order : Order) (bytes : List ℕ) → AreBytes bytes → length bytes ≡ 2
    → field order w16 (number order w16 bytes) ≡ bytes
field16_is Order.Little bytes are len = le_bytes_2 bytes _ len (byte_below bytes are) refl
field16_is Order.Big bytes are len = be_bytes_2 bytes _ len (byte_below bytes are) refl

-- and of four
pub field32_is : (order : Order) (bytes : List ℕ) → AreBytes bytes → length bytes ≡ 4
    → field order w32 (number order w32 bytes) ≡ bytes
field32_is Order.Little bytes are len = le_bytes_4 bytes _ len (byte_below bytes are) refl
field32_is Order.Big bytes are len = be_bytes_4 bytes _ len (byte_below bytes are) refl

-- a number of bytes fits them
pub number16_below : (order : Order) (bytes : List ℕ) → AreBytes bytes → number order w16 bytes < 2 ^ 16
number16_below Order.Little bytes are = grind (arith, common_steps)
number16_below Order.Big bytes are = grind (arith, common_steps)

-- and four bytes
pub number32_below : (order : Order) (bytes : List ℕ) → AreBytes bytes → number order w32 bytes < 2 ^ 32
number32_below Order.Little bytes are = grind (arith, common_steps)
number32_below Order.Big bytes are = grind (arith, common_steps)

-- ---- words

-- the words from a place on are those bytes
words_from : (order : Order) (bytes : List ℕ) → AreBytes bytes → (place count : ℕ)
    → 4 * (place + count) ≤ length bytes
    → words_text order (map (word_at order bytes) (range_with_len place count))
    ≡ take (4 * count) (drop (4 * place) bytes)
words_from order bytes are place zero h = refl
words_from order bytes are place (suc count) h =
    let here : List ℕ = drop (4 * place) bytes in
    ap₂ (λ (a b : List ℕ). a ++ b)
    (field32_is order (take 4 here)
    (All-take (λ b. b < 256) 4 here (All-drop (λ b. b < 256) (4 * place) bytes are))
    (length-take-le 4 here (omega (arith, length-drop (4 * place) bytes))))
    (words_from order bytes are (place + 1) count (omega arith)
    ∙ ap (λ n. take (4 * count) (drop n bytes)) (omega arith)
    ∙ ap (take (4 * count)) (sym (drop-drop 4 (4 * place) bytes)))
    ∙ sym (ap (λ n. take n here) (omega arith) ∙ take-add 4 (4 * count) here)

-- so many words are the bytes at the front
pub words_are : (order : Order) (count : ℕ) (bytes : List ℕ) → AreBytes bytes → 4 * count ≤ length bytes
    → words_text order (words_in order count bytes) ≡ take (4 * count) bytes
words_are order count bytes are h = words_from order bytes are 0 count (omega arith)

-- words at the front of bytes don't ask for the bytes behind them
pub word_in_front : (order : Order) (count : ℕ) (bytes : List ℕ) (k : ℕ) → k < count
    → word_at order (take (4 * count) bytes) k ≡ word_at order bytes k
word_in_front order count bytes k h =
    ap (λ n. number order w32 (take 4 (drop (4 * k) (take n bytes)))) (omega arith)
    ∙ ap (λ t. number order w32 (take 4 t)) (drop-take (4 * k) (4 * (count - k)) bytes)
    ∙ ap (number order w32) (take-take 4 (4 * (count - k)) (drop (4 * k) bytes) (omega arith))

-- ---- ranges

-- the ends of the ranges from a place on are those bytes
pairs_from : (order : Order) (ends ids : List ℕ) (place count : ℕ) → 2 * (place + count) ≤ length ends
    → pairs_text (map (range_in order ends ids) (range_with_len place count))
    ≡ take (2 * count) (drop (2 * place) ends)
pairs_from order ends ids place zero h = refl
pairs_from order ends ids place (suc count) h =
    let here : List ℕ = drop (2 * place) ends in
    let next : 2 * (place + 1) ≡ suc (2 * place + 1) = omega arith in
    let more : 2 * suc count ≡ suc (suc (2 * count)) = omega arith in
    let one : suc (2 * place) ≡ 2 * place + 1 = omega arith in
    let first : here ≡ slice_index ends (2 * place) ∷ drop (suc (2 * place)) ends =
    drop-cons ends (2 * place) 0 (omega arith) in
    let second : drop (2 * place + 1) ends ≡ slice_index ends (2 * place + 1) ∷ drop (suc (2 * place + 1)) ends =
    drop-cons ends (2 * place + 1) 0 (omega arith) in
    ap (λ t. slice_index ends (2 * place) ∷ (slice_index ends (2 * place + 1) ∷ t))
    (pairs_from order ends ids (place + 1) count (omega arith)
    ∙ ap (λ n. take (2 * count) (drop n ends)) next)
    ∙ sym (
    ap₂ take more first
    ∙ ap (λ n. slice_index ends (2 * place) ∷ take (suc (2 * count)) (drop n ends)) one
    ∙ ap (λ t. slice_index ends (2 * place) ∷ take (suc (2 * count)) t) second
    )

-- so many ranges, the last of which stands for the end mark
module _ (order : Order) (count : ℕ) (ends ids : List ℕ) (some : 1 ≤ count) where
  -- the ends of all ranges, and the zeros of the end mark
  pub ends_are : length ends ≡ 2 * count → slice_index ends (2 * count - 2) ≡ 0 → slice_index ends (2 * count - 1) ≡ 0
      → ends_text (map (range_in order ends ids) (range_with_len 0 (count - 1))) ≡ ends
  ends_are len first last = grind (arith, common_steps, pairs_from)

  -- where the ranges from a place on lead
  nexts_from : (place n : ℕ) → map (λ range. range.next) (map (range_in order ends ids) (range_with_len place n))
      ≡ map (word_at order ids) (range_with_len place n)
  nexts_from place zero = refl
  nexts_from place (suc n) = ap (λ t. word_at order ids place ∷ t) (nexts_from (place + 1) n)

  -- where all ranges and the end mark lead
  pub nexts_are : map (λ range. range.next) (map (range_in order ends ids) (range_with_len 0 (count - 1)))
      ++ word_at order ids (count - 1) ∷ []
      ≡ words_in order count ids
  nexts_are =
      ap (λ t. t ++ word_at order ids (count - 1) ∷ []) (nexts_from 0 (count - 1))
      ∙ sym (map-range_with_len_more (word_at order ids) 0 (count - 1) (count - 1) (omega arith))
      ∙ ap (λ n. words_in order n ids) (omega arith)

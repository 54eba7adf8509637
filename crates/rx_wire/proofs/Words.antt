-- Parts of one length and words, one behind another: how many bytes they have, and that each is read back where it
-- stands.
use Rattle.rx_spec.proofs.Prelude.{◌≡◌, ℕ, zero, suc, ◌+◌, ◌*◌, ◌^◌, ◌<◌, List, [], ◌∷◌, ◌++◌, length, take, drop, map}
use Rattle.rx_spec.proofs.Prelude.{get_or, slice_index, refl, ap, sym, ◌∙◌, append_assoc, arith, flat_map}
use Rattle.rx_spec.proofs.Prelude.{range_with_len, w32, append-nil, drop-drop, drop_at, take_at, length-append}
use Rattle.rx_spec.proofs.Prelude.{fill_by_all}
use Rattle.rx_wire.specs.declared.order.Order.{Order}
use Rattle.rx_wire.specs.Fields.{field, number}
use Rattle.rx_wire.proofs.Fields.{again32, length-field_32}

abbrev pub words_text : Order → List ℕ → List ℕ
words_text order words = flat_map (field order w32) words

abbrev pub word_at : Order → List ℕ → ℕ → ℕ
word_at order bytes k = number order w32 (take 4 (drop (4 * k) bytes))

-- ---- parts of one length

module _ {A : Type 0} (part : A → List ℕ) (n : ℕ) (len : (x : A) → length (part x) ≡ n) where
  pub length-parts : (xs : List A) → length (flat_map part xs) ≡ n * length xs
  length-parts [] = omega arith
  length-parts (x ∷ xs) = omega (arith, length-append (part x) (flat_map part xs), len x, length-parts xs)

  -- the bytes from the place of a part on begin with it, whatever follows
  pub part_there : (xs : List A) (rest : List ℕ) (k : ℕ) (none : A) → k < length xs
      → drop (n * k) (flat_map part xs ++ rest)
      ≡ part (get_or xs k none) ++ (flat_map part (drop (k + 1) xs) ++ rest)
  part_there [] rest k none h = elim h [ ]
  part_there (x ∷ xs) rest zero none h =
      let place : n * 0 ≡ 0 = omega arith in
      ap (λ i. drop i (flat_map part (x ∷ xs) ++ rest)) place ∙ append_assoc (part x) (flat_map part xs) rest
  part_there (x ∷ xs) rest (suc k) none h =
      let place : n * suc k ≡ n + n * k = omega arith in
      let next : suc k + 1 ≡ suc (k + 1) = omega arith in
      ap (λ i. drop i (flat_map part (x ∷ xs) ++ rest)) place
      ∙ sym (drop-drop (n * k) n (flat_map part (x ∷ xs) ++ rest))
      ∙ ap (λ t. drop (n * k) (drop n t)) (append_assoc (part x) (flat_map part xs) rest)
      ∙ ap (drop (n * k)) (drop_at (part x) (flat_map part xs ++ rest) n (len x))
      ∙ part_there xs rest k none (omega arith)
      ∙ ap (λ i. part (get_or xs k none) ++ (flat_map part (drop i (x ∷ xs)) ++ rest)) (sym next)

-- ---- words

pub length-words : (order : Order) (words : List ℕ) → length (words_text order words) ≡ 4 * length words
length-words order words = length-parts (field order w32) 4 (length-field_32 order) words

-- whatever follows
pub word_there : (order : Order) (words rest : List ℕ) (i : ℕ) → i < length words → slice_index words i < 2 ^ 32
    → word_at order (words_text order words ++ rest) i ≡ slice_index words i
word_there order words rest i h small =
    let text : List ℕ = field order w32 (slice_index words i) in
    let others : List ℕ = flat_map (field order w32) (drop (i + 1) words) ++ rest in
    ap (λ t. number order w32 (take 4 t)) (part_there (field order w32) 4 (length-field_32 order) words rest i 0 h)
    ∙ ap (number order w32) (take_at text others 4 (length-field_32 order (slice_index words i)))
    ∙ again32 order (slice_index words i) small

pub word_alone : (order : Order) (words : List ℕ) (i : ℕ) → i < length words → slice_index words i < 2 ^ 32
    → word_at order (words_text order words) i ≡ slice_index words i
word_alone order words i h small =
    ap (λ t. word_at order t i) (sym (append-nil (words_text order words))) ∙ word_there order words [] i h small

pub words_again : (order : Order) (words rest : List ℕ) → ((i : ℕ) → i < length words → slice_index words i < 2 ^ 32)
    → map (word_at order (words_text order words ++ rest)) (range_with_len 0 (length words)) ≡ words
words_again order words rest small =
    sym (fill_by_all (word_at order (words_text order words ++ rest)) words (length words) 0 refl
    (λ k h. sym (word_there order words rest k h (small k h))))

-- The words of some bytes.
use Rattle.rx_spec.proofs.Prelude.{◌≡◌, ℕ, ◌+◌, ◌<◌, ◌≤◌, List, [], ◌∷◌, length, get_or, take, drop, arith}
use Rattle.rx_spec.proofs.Prelude.{common_steps, ◌*◌, ◌^◌, get_or-map-range_with_len, length-map-range_with_len, w32}
use Rattle.rx_spec.proofs.Prelude.{get_or-drop}
use Rattle.rx_wire.specs.declared.order.Order.{Order}
use Rattle.rx_image_parts.specs.Words.{AreWords, words_of, word_at}
use Rattle.rx_wire.specs.Fields.{number}

-- the four bytes of a word
pub four : {a b c : ℕ} (xs : List ℕ) (n : ℕ) → a ≡ n + 1 → b ≡ n + 2 → c ≡ n + 3 → n + 4 ≤ length xs
    → take 4 (drop n xs) ≡ get_or xs n 0 ∷ (get_or xs a 0 ∷ (get_or xs b 0 ∷ (get_or xs c 0 ∷ [])))
four {a} {b} {c} xs n ea eb ec long = grind (arith, common_steps)

-- ---- bytes make words

abbrev pub IsBytes : List ℕ → Type 0
IsBytes bytes = (i : ℕ) → get_or bytes i 0 < 256

IsBytes-take : (n : ℕ) (bytes : List ℕ) → IsBytes bytes → IsBytes (take n bytes)
IsBytes-take n bytes h i = grind (arith, common_steps)

number_small : (order : Order) (bytes : List ℕ) → IsBytes bytes → number order w32 bytes < 2 ^ 32
number_small Order.Little bytes fits = omega arith
number_small Order.Big bytes fits = omega arith

pub word_small : (order : Order) (bytes : List ℕ) (k : ℕ) → IsBytes bytes → word_at order bytes k < 2 ^ 32
word_small order bytes k fits =
    number_small order (take 4 (drop (4 * k) bytes))
    (IsBytes-take 4 (drop (4 * k) bytes) (λ i. rw get_or-drop (fits ((4 * k) + i))))

pub words_fit : (order : Order) (bytes : List ℕ) (count : ℕ) (words : List ℕ) → IsBytes bytes
    → words ≡ words_of order bytes count → AreWords words
words_fit order bytes count words fits is i =
    grind (arith, common_steps, length-map-range_with_len, get_or-map-range_with_len, word_small)

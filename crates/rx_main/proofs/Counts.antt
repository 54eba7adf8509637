-- How many words a command line has, and its numerals.
use Rattle.rx_spec.proofs.Prelude.{common_steps, ◌≡◌, ℕ, List, [], ◌∷◌, length, ap, arith, Some, slice_get, same_Some}
use Rattle.std.specs.Str.Parse.{AllDigits, digits_value}
use Rattle.std.proofs.lemmas.Str.Parse.{IsNumeralModel, numerals_by_value, tells_digits}

pub own : IsNumeralModel (AllDigits 10) (digits_value 10)
own = numerals_by_value (AllDigits 10) tells_digits

-- ---- so many words

pub one_word : (words : List (List ℕ)) (word : List ℕ) → length words ≡ 1 → slice_get words 0 ≡ Some word
    → words ≡ word ∷ []
one_word [] word n e = absurd (omega arith)
one_word (w ∷ []) word n e = ap (λ v. v ∷ []) (same_Some w word e)
one_word (w ∷ (v ∷ ws)) word n e = absurd (omega arith)

pub two_words : (words : List (List ℕ)) (word other : List ℕ) → length words ≡ 2
    → slice_get words 0 ≡ Some word → slice_get words 1 ≡ Some other → words ≡ word ∷ (other ∷ [])
two_words [] word other n e f = absurd (omega arith)
two_words (w ∷ []) word other n e f = absurd (omega arith)
two_words (w ∷ (v ∷ [])) word other n e f = grind (arith, common_steps, same_Some)
two_words (w ∷ (v ∷ (u ∷ ws))) word other n e f = absurd (omega arith)

pub three_words : (words : List (List ℕ)) (word other third : List ℕ) → length words ≡ 3
    → slice_get words 0 ≡ Some word → slice_get words 1 ≡ Some other → slice_get words 2 ≡ Some third
    → words ≡ word ∷ (other ∷ (third ∷ []))
three_words [] word other third n e f g = absurd (omega arith)
three_words (w ∷ []) word other third n e f g = absurd (omega arith)
three_words (w ∷ (v ∷ [])) word other third n e f g = absurd (omega arith)
three_words (w ∷ (v ∷ (u ∷ []))) word other third n e f g = grind (arith, common_steps, same_Some)
three_words (w ∷ (v ∷ (u ∷ (t ∷ ws)))) word other third n e f g = absurd (omega arith)

pub four_words : (words : List (List ℕ)) (a b c d : List ℕ) → length words ≡ 4
    → slice_get words 0 ≡ Some a → slice_get words 1 ≡ Some b → slice_get words 2 ≡ Some c
    → slice_get words 3 ≡ Some d → words ≡ a ∷ (b ∷ (c ∷ (d ∷ [])))
four_words (w ∷ (x ∷ (y ∷ (z ∷ [])))) a b c d n f g h i = grind (arith, common_steps, same_Some)
four_words [] a b c d n f g h i = absurd (omega arith)
four_words (w ∷ []) a b c d n f g h i = absurd (omega arith)
four_words (w ∷ (x ∷ [])) a b c d n f g h i = absurd (omega arith)
four_words (w ∷ (x ∷ (y ∷ []))) a b c d n f g h i = absurd (omega arith)
four_words (w ∷ (x ∷ (y ∷ (z ∷ (v ∷ ws))))) a b c d n f g h i = absurd (omega arith)

pub five_words : (words : List (List ℕ)) (a b c d e : List ℕ) → length words ≡ 5
    → slice_get words 0 ≡ Some a → slice_get words 1 ≡ Some b → slice_get words 2 ≡ Some c
    → slice_get words 3 ≡ Some d → slice_get words 4 ≡ Some e → words ≡ a ∷ (b ∷ (c ∷ (d ∷ (e ∷ []))))
five_words (w ∷ (x ∷ (y ∷ (z ∷ (v ∷ []))))) a b c d e n f g h i j = grind (arith, common_steps, same_Some)
five_words [] a b c d e n f g h i j = absurd (omega arith)
five_words (w ∷ []) a b c d e n f g h i j = absurd (omega arith)
five_words (w ∷ (x ∷ [])) a b c d e n f g h i j = absurd (omega arith)
five_words (w ∷ (x ∷ (y ∷ []))) a b c d e n f g h i j = absurd (omega arith)
five_words (w ∷ (x ∷ (y ∷ (z ∷ [])))) a b c d e n f g h i j = absurd (omega arith)
five_words (w ∷ (x ∷ (y ∷ (z ∷ (v ∷ (u ∷ ws)))))) a b c d e n f g h i j = absurd (omega arith)

-- Numbers: what is read is spelled so, and what is spelled so is read.
use Rattle.rx_spec.proofs.Prelude.{common_steps, ◌≡◌, ◌≢◌, ℕ, ◌^◌, ◌<◌, ◌≤◌, Bool, true, false, ◌&&◌, cond, eqb, ltb}
use Rattle.rx_spec.proofs.Prelude.{List, [], ◌∷◌, length, get_or, Option, Some, None, refl, sym, ap, subst, ◌∙◌, arith}
use Rattle.rx_spec.proofs.Prelude.{rules, decimal, eqb-true, eqb-false, ltb-true, lt-ltb, and_parts, cases_Bool}
use Rattle.rx_spec.proofs.Prelude.{same_Some, decimal_digit}
use Rattle.std.proofs.lemmas.Fmt.{decimal_nonempty, first_decimal, digits_decimal, digits_value-decimal}
use Rattle.std.proofs.lemmas.Fmt.{decimal-digits_value}
use Rattle.std.proofs.lemmas.Str.Parse.{IsNumeralModel, numerals_by_fold}
use Rattle.rx_script.specs.Tokens.{is_digit, with_digit, number_limit, number_from, number_of, most_of}
use Rattle.rx_script.specs.Grammar.{SpellsNumber, SpellsMost}
use Rattle.rx_script.proofs.Tables.{same_word}

-- the digits of a number, and its value
abbrev pub are_digits : List ℕ → Bool
are_digits [] = true
are_digits (c ∷ cs) = is_digit c && are_digits cs

abbrev pub value_onto : ℕ → List ℕ → ℕ
value_onto n [] = n
value_onto n (c ∷ cs) = value_onto (with_digit n c) cs

own : IsNumeralModel (λ ds. are_digits ds ≡ true) (value_onto 0)
own = numerals_by_fold _ (search rules) value_onto (search rules)

chosen_some : {A : Type 0} (b : Bool) (r : Option A) (x : A) → cond b r None ≡ Some x → (b ≡ true) × (r ≡ Some x)
chosen_some true r x e = (refl, e)
chosen_some false r x e = absurd cc

from_digits : (n : ℕ) (cs : List ℕ) (v : ℕ) → n < number_limit → number_from n cs ≡ Some v
    → (are_digits cs ≡ true) × (value_onto n cs ≡ v) × (v < number_limit)
from_digits n [] v lt e = (refl, same_Some n v e, subst (λ (x : ℕ). x < number_limit) (same_Some n v e) lt)
from_digits n (c ∷ cs) v lt e =
    let a = chosen_some (is_digit c && ltb (with_digit n c) (number_limit)) (number_from (with_digit n c) cs) v e in
    let b = and_parts (is_digit c) (ltb (with_digit n c) (number_limit)) a.0 in
    let r = from_digits (with_digit n c) cs v (ltb-true _ _ b.1) a.1 in
    (rw (b.0, r.0) refl, r.1, r.2)

grows : (n : ℕ) (cs : List ℕ) → n ≤ value_onto n cs
grows n [] = omega arith
grows n (c ∷ cs) = let g = grows (with_digit n c) cs in omega arith

to_digits : (n : ℕ) (cs : List ℕ) → are_digits cs ≡ true → value_onto n cs < number_limit
    → number_from n cs ≡ Some (value_onto n cs)
to_digits n [] d lt = refl
to_digits n (c ∷ cs) d lt =
    let b = and_parts (is_digit c) (are_digits cs) d in
    let g = grows (with_digit n c) cs in
    let small : with_digit n c < number_limit = omega arith in
    rw (b.0, lt-ltb _ _ small) (to_digits (with_digit n c) cs b.1 lt)

spelled_by : (ds : List ℕ) (v : ℕ) → are_digits ds ≡ true → 0 < length ds → (get_or ds 0 0 ≡ 48 → length ds ≡ 1)
    → value_onto 0 ds ≡ v → v < number_limit → SpellsNumber v ds
spelled_by ds v d some lead e lt =
    (lt, sym (ap decimal (sym e) ∙ decimal-digits_value own ds d some lead (omega arith)))

-- what is read as a number spells it
pub number_spelled : (word : List ℕ) (v : ℕ) → number_of word ≡ Some v → SpellsNumber v word
number_spelled [] v e = absurd cc
number_spelled (c ∷ []) v e =
    let f = from_digits 0 (c ∷ []) v (omega arith) e in
    spelled_by (c ∷ []) v f.0 (omega arith) (λ lead. refl) f.1 f.2
number_spelled (c ∷ (d ∷ ds)) v e = two (eqb c 48) refl e where
  two : (t : Bool) → eqb c 48 ≡ t → cond t None (number_from 0 (c ∷ (d ∷ ds))) ≡ Some v → SpellsNumber v (c ∷ (d ∷ ds))
  two true z g = absurd cc
  two false z g =
      let f = from_digits 0 (c ∷ (d ∷ ds)) v (omega arith) g in
      spelled_by (c ∷ (d ∷ ds)) v f.0 (omega arith) (λ lead. absurd (eqb-false c 48 z lead)) f.1 f.2

-- the first digit of a longer number isn't 0
by_cases : (word : List ℕ) → are_digits word ≡ true → 0 < length word → (1 < length word → get_or word 0 0 ≢ 48)
    → number_of word ≡ number_from 0 word
by_cases [] d some lead = absurd (omega arith)
by_cases (c ∷ []) d some lead = refl
by_cases (c ∷ (e ∷ es)) d some lead = two (eqb c 48) refl where
  two : (t : Bool) → eqb c 48 ≡ t → cond t None (number_from 0 (c ∷ (e ∷ es))) ≡ number_from 0 (c ∷ (e ∷ es))
  two true z = absurd (lead (omega arith) (eqb-true c 48 z))
  two false z = refl

first_not_zero : (n : ℕ) → n < number_limit → 1 < length (decimal n) → get_or (decimal n) 0 0 ≢ 48
first_not_zero n lt long e = grind (arith, common_steps, decimal_digit, first_decimal)

pub number_read : (word : List ℕ) (v : ℕ) → SpellsNumber v word → number_of word ≡ Some v
number_read word v s =
    let lt64 : v < 2 ^ 64 = omega arith in
    let d = digits_decimal own v lt64 in
    let value = digits_value-decimal own v lt64 in
    ap number_of s.1 ∙ by_cases (decimal v) d (decimal_nonempty v lt64) (first_not_zero v s.0)
    ∙ to_digits 0 (decimal v) d (omega arith) ∙ ap (λ (x : ℕ). Some x) value

-- ---- the most rounds of a repetition

pub most_spelled : (word : List ℕ) (most : Option ℕ) → most_of word ≡ Some most → SpellsMost most word
unfolding most_of
most_spelled word most e = grind (arith, common_steps, cases_Bool, same_word, number_spelled)

pub most_read : (word : List ℕ) (most : Option ℕ) → SpellsMost most word → most_of word ≡ Some most
unfolding most_of
most_read word None s = ap most_of s
most_read word (Some n) s = grind (arith, common_steps, number_read)

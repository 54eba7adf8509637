-- The text of a word, unit after unit.
use Rattle.rx_spec.proofs.Prelude.{◌≡◌, ℕ, zero, suc, ◌+◌, ◌≤◌, List, [], ◌∷◌, ◌++◌, Some, map, take, ap, sym, ◌∙◌}
use Rattle.rx_spec.proofs.Prelude.{arith, codes, slice_get, flat_map_more, map-append, get_or_from_slice_get}
use Rattle.rx_spec.proofs.Prelude.{slice_get_within}
use Rattle.std.proofs.Math.Seq.{take-suc}
use Rattle.rx_spec.specs.declared.Unit.{Unit}
use Rattle.rx_base.specs.Unit.{unit_number}
use Rattle.rx_main.specs.EqualLines.{unit_text, word_text}

abbrev after_comma : ℕ → List ℕ
after_comma unit = codes "," ++ unit_text unit

-- one unit more, behind a first one
word_more : (first : ℕ) (units : List ℕ) (next : ℕ)
    → word_text (first ∷ units) ++ after_comma next ≡ word_text (first ∷ (units ++ next ∷ []))
word_more first units next = flat_map_more after_comma (unit_text first) units next

-- the units before a place, and the one there
taken_more : (word : List Unit) (i : ℕ) (unit : Unit) → slice_get word i ≡ Some unit
    → map unit_number (take (suc i) word) ≡ map unit_number (take i word) ++ unit_number unit ∷ []
taken_more word i unit e =
    ap (map unit_number) (take-suc word i unit (slice_get_within word i unit e))
    ∙ map-append unit_number (take i word) _
    ∙ ap (λ (u : Unit). map unit_number (take i word) ++ unit_number u ∷ []) (get_or_from_slice_get word i unit unit e)

pub word_taken : (word : List Unit) (i : ℕ) (unit : Unit) → 1 ≤ i → slice_get word i ≡ Some unit
    → word_text (map unit_number (take i word)) ++ after_comma (unit_number unit)
    ≡ word_text (map unit_number (take (i + 1) word))
word_taken [] i unit some e = absurd (let h = slice_get_within [] i unit e in omega (arith, h))
word_taken (first ∷ rest) zero unit some e = absurd (omega (arith, some))
word_taken (first ∷ rest) (suc i) unit some e =
    let next : suc (suc i) ≡ suc i + 1 = omega arith in
    word_more (unit_number first) (map unit_number (take i rest)) (unit_number unit)
    ∙ ap (λ (units : List ℕ). word_text (unit_number first ∷ units)) (sym (taken_more rest i unit e))
    ∙ ap (λ (n : ℕ). word_text (map unit_number (take n (first ∷ rest)))) next

-- Whether the rows have a Unicode word assertion, told by the set of their assertions.
use Rattle.rx_spec.proofs.Prelude.{both_ways, inl, inr, or_right, arith, ◌≡◌, ℕ, ◌↔◌, Bool, true, ◌||◌, ◌==◌, List, []}
use Rattle.rx_spec.proofs.Prelude.{◌∷◌, refl, sym, ap, ◌∙◌, true≢false, eqb-true, eq-eqb, common_steps, IsTrue}
use Rattle.rx_spec.proofs.Prelude.{list_any, cases_Bool, is_unicode_word, Row}
use Rattle.rx_spec.specs.Classes.{looks_for_unicode_word}
use Rattle.rx_spec.specs.declared.Look.{Look}
use Rattle.rx_base.specs.LookSet.{holds_look, look_number}
use Rattle.rx_expr.specs.Nfa.{asserts, has_look}

-- the assertions of Unicode words, by their numbers
abbrev is_unicode_number : ℕ → Bool
is_unicode_number n = n == 8 || n == 9 || n == 12 || n == 13 || n == 16 || n == 17

by_number : (look : Look) → is_unicode_word look ≡ is_unicode_number (look_number look)
by_number Look.Start = refl
by_number _ = refl

same_number : (look other : Look) → look_number look ≡ look_number other → is_unicode_word look ≡ is_unicode_word other
same_number look other e = by_number look ∙ ap is_unicode_number e ∙ sym (by_number other)

-- a row that has the assertion
row_told : (look : Look) (row : Row) → is_unicode_word look ≡ true → asserts look row ≡ true
    → looks_for_unicode_word row ≡ true
row_told look (Row.Look other next) u h = grind (arith, common_steps, same_number, eqb-true)
row_told look _ u h = absurd (true≢false (sym h))

rows_told : (look : Look) (rows : List Row) → is_unicode_word look ≡ true → has_look rows look ≡ true
    → list_any looks_for_unicode_word rows ≡ true
rows_told look [] u h = h
rows_told look (row ∷ rows) u h = grind (arith, common_steps, row_told, rows_told look rows u)

-- the assertion that a row has
row_has : (row : Row) → looks_for_unicode_word row ≡ true
    → (look : Look) × (is_unicode_word look ≡ true) × (asserts look row ≡ true)
row_has (Row.Look look next) h = (look, h, eq-eqb (look_number look) (look_number look) refl)
row_has _ h = absurd (true≢false (sym h))

rows_have : (rows : List Row) → list_any looks_for_unicode_word rows ≡ true
    → (look : Look) × (is_unicode_word look ≡ true) × (has_look rows look ≡ true)
rows_have [] h = absurd (true≢false (sym h))
rows_have (row ∷ rows) h =
    elim (cases_Bool (looks_for_unicode_word row)) [
      | inl t ↦ let a = row_has row t in (a.0, a.1, rw a.2 refl)
      | inr f ↦ let a = rows_have rows (rw f at h) in (a.0, a.1, or_right (asserts a.0 row) (has_look rows a.0) a.2)
    ]

-- what the set of assertions tells
pub unicode_told : (rows : List Row) (set : ℕ) (told : Bool)
    → ((look : Look) → holds_look set look ≡ has_look rows look)
    → (IsTrue told ↔ ((look : Look) × (is_unicode_word look ≡ true) × (holds_look set look ≡ true)))
    → told ≡ list_any looks_for_unicode_word rows
unicode_told rows set told holds iff =
    both_ways told (list_any looks_for_unicode_word rows)
    (λ t. let a = iff.0 t in rows_told a.0 rows a.1 (sym (holds a.0) ∙ a.2))
    (λ t. let a = rows_have rows t in iff.1 (a.0, a.1, holds a.0 ∙ a.2))

-- The rows that a unit leads to one of several rows.
use Rattle.rx_refine.proofs.Prelude.{All, All-nil, AreMoves, Contains-from_any, Contains-get_or, List, Moves, [], arith}
use Rattle.rx_refine.proofs.Prelude.{cases_Bool, cases_eq, column, common_steps, eq-eqb, eqb, eqb-true, flat_map}
use Rattle.rx_refine.proofs.Prelude.{get_or, inl, inr, is_in, length, ne_eqb, next_row, places_of, refl, sources, sym}
use Rattle.rx_refine.proofs.Prelude.{ℕ, ◌<◌, ◌∙◌, ◌∷◌, ◌≡◌}
use Rattle.rx_refine.proofs.Places.{Contains-places_of, within-places_of, value-places_of}
use Rattle.rx_refine.proofs.GroupedRows.{any-from_Contains}

-- a place is among the places of the value that stands there
pub is_in-places_of : (xs : List ℕ) (v x : ℕ) → x < length xs → is_in (places_of xs v) x ≡ eqb (get_or xs x 0) v
is_in-places_of xs v x l =
    elim (cases_eq (get_or xs x 0) v) [
      | inl e ↦ any-from_Contains x (places_of xs v) (Contains-places_of xs v x l e) ∙ sym (eq-eqb (get_or xs x 0) v e)
      | inr ne ↦ elim (cases_Bool (is_in (places_of xs v) x)) [
        | inl t ↦ absurd (ne (value-places_of xs v x (Contains-from_any (λ a b. eqb-true a b) x (places_of xs v) t)))
        | inr f ↦ f ∙ sym (ne_eqb (get_or xs x 0) v ne)
      ]
    ]

pub places_of-small : (xs : List ℕ) (v n : ℕ) → length xs ≡ n → All (λ row. row < n) (places_of xs v)
places_of-small xs v n e k d l =
    let w : get_or (places_of xs v) k d < length xs =
    within-places_of xs v (get_or (places_of xs v) k d) (Contains-get_or (places_of xs v) k d l) in
    omega arith

-- ---- the rows that a unit leads to one of several rows
pub is_in-flat_map : (m : Moves) (rows : List ℕ) (unit row : ℕ) → row < length (column m unit)
    → is_in (flat_map (λ r. sources m r unit) rows) row ≡ is_in rows (next_row m row unit)
is_in-flat_map m [] unit row l = refl
is_in-flat_map m (r ∷ rs) unit row l = grind (arith, common_steps, is_in-places_of, is_in-flat_map m rs unit row l)

pub flat_map-small : {m : Moves} (rows : List ℕ) (unit : ℕ) → AreMoves m → unit < m.units → 0 < m.rows
    → All (λ row. row < m.rows) (flat_map (λ r. sources m r unit) rows)
flat_map-small {m} [] unit a h some = All-nil (λ row. row < m.rows)
flat_map-small {m} (r ∷ rs) unit a h some =
    grind (arith, common_steps, places_of-small, flat_map-small rs unit a h some)

-- a source is a row
pub source_below : {m : Moves} {row unit : ℕ} (i : ℕ) {x : ℕ} → AreMoves m → row < m.rows → unit < m.units
    → i < length (sources m row unit) → x ≡ get_or (sources m row unit) i 0 → x < m.rows
source_below {m} {row} {unit} i a r u l e = grind (arith, common_steps, places_of-small)

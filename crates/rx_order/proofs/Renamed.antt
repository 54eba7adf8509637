-- Tables whose rows have changed places, and are renamed.
use Rattle.rx_spec.proofs.Prelude.{common_steps, ◌≡◌, ℕ, ◌<◌, List, [], ◌∷◌, length, map, refl, ◌∙◌, ap, ap₂, arith}
use Rattle.rx_spec.proofs.Prelude.{All, range_with_len, swap, get_or-map, length-map, length-swap, All-head, All-tail}
use Rattle.rx_spec.proofs.Prelude.{fill_by_all, length-range_with_len, IsPermutation-swap}
use Rattle.rx_order.proofs.Prelude.{Arrangement, Fits, IsArrangement, IsPermutation-trans, IsRearranged, IsRenamed}
use Rattle.rx_order.proofs.Prelude.{Transitions, new_id, place_of, rearranged, with_ids, with_swapped}
use Rattle.rx_order.specs.Transitions.{AreRows, IsRowId}
use Rattle.rx_order.specs.Renaming.{row_at, unmoved}
use Rattle.rx_order.proofs.ExchangedRows.{map-swap, row_at_place}

-- ---- before the first exchange

module _ (t : Transitions) where
  pub unmoved_arrangement : AreRows t → IsArrangement (unmoved t)
  unmoved_arrangement h = grind (arith, common_steps, length-range_with_len)

  pub unmoved_fits : Fits (unmoved t) t
  unmoved_fits = record { count = length-range_with_len 0 (length t.rows); stride2 = refl }

  pub unmoved_rearranged : IsRearranged (unmoved t) t t
  unmoved_rearranged = record {
    fits = unmoved_fits;
    is = ap (λ rows. record t { rows = rows })
        (fill_by_all (row_at t) t.rows (length t.rows) [] refl (λ k low. refl));
  }

-- ---- exchanges

abbrev pub exchanged : Arrangement → (i j : ℕ) → Arrangement
exchanged a i j = record a { rows = swap a.rows i j }

pub arrangement_of_exchanged : (a : Arrangement) (i j : ℕ) → i < length a.rows → j < length a.rows → IsArrangement a
    → IsArrangement (exchanged a i j)
arrangement_of_exchanged a i j hi hj h =
    let same = length-swap a.rows i j in
    record {
      exponent = h.exponent;
      ids = λ place low. h.ids place (omega arith);
      permutation =
          rw same
          (IsPermutation-trans (range_with_len 0 (length a.rows)) a.rows (swap a.rows i j) h.permutation
          (IsPermutation-swap a.rows (swap a.rows i j) i j hi hj refl));
    }

pub rearranged_of_exchanged : (a : Arrangement) (i j : ℕ) {old now next : Transitions}
    → i < length a.rows → j < length a.rows → next ≡ with_swapped now i j → IsRearranged a old now
    → IsRearranged (exchanged a i j) old next
rearranged_of_exchanged a i j {old = old} hi hj e h = grind (arith, common_steps, length-swap, map-swap)

-- ---- the renaming

map-same : {X Y : Type 0} (P : X → Type 0) (f g : X → Y) (xs : List X) → ((x : X) → P x → f x ≡ g x) → All P xs
    → map f xs ≡ map g xs
map-same P f g [] e h = refl
map-same P f g (x ∷ xs) e h = ap₂ (λ y ys. y ∷ ys) (e x (All-head P x xs h)) (map-same P f g xs e (All-tail P x xs h))

-- what agrees on the ids of rows renames alike
pub with_ids-same : (t : Transitions) (f g : ℕ → ℕ) → AreRows t → ((id : ℕ) → IsRowId t id → f id ≡ g id)
    → with_ids f t ≡ with_ids g t
with_ids-same t f g h e =
    ap₂ (λ rows starts. record t { rows = rows; starts = starts })
    (map-same (All (IsRowId t)) (map f) (map g) t.rows (λ row r. map-same (IsRowId t) f g row e r) h.entries)
    (map-same (IsRowId t) f g t.starts e h.starts)

pub renamed : (a : Arrangement) (old now next : Transitions) → IsArrangement a → IsRearranged a old now
    → next ≡ with_ids (new_id a) now → IsRenamed a old next
renamed a old now next is h e =
    let n = h.fits.count in
    let all : next ≡ with_ids (new_id a) (rearranged a old) = e ∙ ap (with_ids (new_id a)) h.is in
    let count : length next.rows ≡ length a.rows =
    ap (λ t. length t.rows) all ∙ length-map (map (row_at old) a.rows) (map (new_id a))
    ∙ length-map a.rows (row_at old) in
    record {
      permutation = rw (← n) is.permutation;
      count = count ∙ n;
      stride2 = ap (λ t. t.stride2) all;
      rows = λ row low.
          let within : row < length a.rows = omega arith in
          let at = row_at_place is.permutation row within in
          let lies : place_of a row < length (map (row_at old) a.rows) = rw (length-map a.rows (row_at old)) at.0 in
          ap (λ t. row_at t (place_of a row)) all
          ∙ get_or-map (map (new_id a)) (map (row_at old) a.rows) (place_of a row) [] [] lies
          ∙ ap (map (new_id a)) (get_or-map (row_at old) a.rows (place_of a row) 0 [] at.0 ∙ ap (row_at old) at.1);
      starts = ap (λ t. t.starts) all;
    }

-- Lists of patterns that are inserted into a map one after another, each behind the map's last key.
use Rattle.rx_spec.proofs.Prelude.{◌≡◌, ◌+◌, ◌-◌, ◌*◌, ◌<◌, ◌≤◌, ◌∙◌, ◌++◌, [], ◌∷◌, ℕ, List, All, Vec, Global, map}
use Rattle.rx_spec.proofs.Prelude.{refl, ap, ap₂, sym, subst, arith, keys, range_with_len, keys_of, values_of, nat_cmp}
use Rattle.rx_spec.proofs.Prelude.{vec_items, All-from_get_or}
use Rattle.rx_spec.proofs.Prelude.{get_or-map-range_with_len, length-map-range_with_len, map-range_with_len_more}
use Rattle.rx_spec.proofs.Prelude.{row_fits}
use Rattle.rx_order.proofs.Prelude.{Matches, pattern_lists}
use Rattle.rx_dense.proofs.MatchMaps.{inserted_last, keys_last, lists_last}
use Rattle.std.specs.BTreeMap.{insert_entry}

-- The lists of places from one on stand at the ids of the places.
pub record AreInserted (list_of : ℕ → List ℕ) (width from place : ℕ) (lists : Matches) : Type 0 where
  pub lists_are : pattern_lists lists ≡ map list_of (range_with_len from (place - from))
  pub keys_are : keys lists ≡ map (λ place. place * width) (range_with_len from (place - from))

-- so the next place has a greater id
keys_below : {list_of : ℕ → List ℕ} {width from place : ℕ} {lists : Matches}
    → AreInserted list_of width from place lists → 0 < width → from ≤ place
    → All (λ key. key < place * width) (keys lists)
keys_below {width = width} {from = from} {place = place} h some behind =
    let ids : List ℕ = map (λ place. place * width) (range_with_len from (place - from)) in
    subst (All (λ key. key < place * width)) (sym h.keys_are)
    (All-from_get_or (λ key. key < place * width) ids 0
    (λ k low.
    let within : k < place - from =
    omega (arith, low, length-map-range_with_len (λ place. place * width) from (place - from)) in
    let at = get_or-map-range_with_len (λ place. place * width) from (place - from) k (from + k) 0 within refl in
    omega (arith, at, row_fits (from + k) width place width (omega arith) (omega arith), some)))

pub one_inserted : {list_of : ℕ → List ℕ} {width from place : ℕ} {lists new : Matches} (id : ℕ) (list : Vec ℕ Global)
    → AreInserted list_of width from place lists → 0 < width → from ≤ place → id ≡ place * width
    → list.items ≡ list_of place → new.entries ≡ insert_entry nat_cmp lists.entries id list
    → AreInserted list_of width from (place + 1) new
one_inserted {list_of} {width} {from} {place} {lists} {new} id list h some behind id_is list_is inserted =
    let more : place + 1 - from ≡ place - from + 1 = omega arith in
    let last : from + (place - from) ≡ place = omega arith in
    let below : All (λ key. key < id) (keys lists) =
    subst (λ k. All (λ key. key < k) (keys lists)) (sym id_is) (keys_below h some behind) in
    let entries : new.entries ≡ lists.entries ++ (id, list) ∷ [] =
    inserted ∙ inserted_last lists.entries id list below in
    record {
      lists_are =
          ap (λ es. map vec_items (values_of es)) entries ∙ lists_last lists.entries id list
          ∙ ap₂ (λ (xs : List (List ℕ)) (y : List ℕ). xs ++ y ∷ []) h.lists_are list_is
          ∙ sym (ap (λ n. map list_of (range_with_len from n)) more
          ∙ map-range_with_len_more list_of from (place - from) place last);
      keys_are =
          ap keys_of entries ∙ keys_last lists.entries id list
          ∙ ap₂ (λ (xs : List ℕ) (y : ℕ). xs ++ y ∷ []) h.keys_are id_is
          ∙ sym (ap (λ n. map (λ place. place * width) (range_with_len from n)) more
          ∙ map-range_with_len_more (λ place. place * width) from (place - from) place last);
    }

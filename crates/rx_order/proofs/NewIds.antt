-- The ids of the places where rows lie, listed by rows: one place after another is noted.
use Rattle.rx_spec.proofs.Prelude.{◌≡◌, ℕ, ◌+◌, ◌*◌, ◌/◌, ◌^◌, ◌<◌, List, length, sym, ◌∙◌, ap, subst, arith, ⊎_elim}
use Rattle.rx_spec.proofs.Prelude.{All, slice_index, slice_set, cases_eq, get_or_default, get_or-set_other}
use Rattle.rx_spec.proofs.Prelude.{get_or-set_same, pow_pos, mul-div_cancel, mul-mod_left}
use Rattle.rx_order.proofs.Prelude.{Arrangement, Fits, IsArrangement, Transitions, length-set, new_id, place_of}
use Rattle.rx_order.proofs.Prelude.{with_ids}
use Rattle.rx_order.specs.Transitions.{AreRows, IsRowId, row_of}
use Rattle.rx_order.proofs.ExchangedRows.{places_apart, row_at_place, row_below}
use Rattle.rx_order.proofs.Renamed.{with_ids-same}

-- the ids of the places below one are noted
pub record AreNoted (a : Arrangement) (place : ℕ) (ids : List ℕ) : Type 0 where
  pub count : length ids ≡ length a.rows
  pub noted : (k : ℕ) → k < place → slice_index ids (slice_index a.rows k) ≡ k * 2 ^ a.stride2

module _ {a : Arrangement} (is : IsArrangement a) where
  pub none_noted : (ids : List ℕ) → length ids ≡ length a.rows → AreNoted a 0 ids
  none_noted ids h = record { count = h; noted = λ k low. absurd (omega (arith, low)) }

  pub one_noted : (place : ℕ) (ids : List ℕ) → place < length a.rows → AreNoted a place ids
      → AreNoted a (place + 1) (slice_set ids (slice_index a.rows place) (place * 2 ^ a.stride2))
  one_noted place ids h noted = record {
    count = length-set ids (slice_index a.rows place) (place * 2 ^ a.stride2) ∙ noted.count;
    noted = λ k low.
        ⊎_elim
        (λ (e : k ≡ place).
        subst (λ k. slice_index next (slice_index a.rows k) ≡ k * 2 ^ a.stride2) (sym e)
        (get_or-set_same ids (slice_index a.rows place) (place * 2 ^ a.stride2) 0
        (omega (arith, row_below is.permutation place h, noted.count))))
        (λ (ne : k ≡ place → ⊥).
        get_or-set_other ids (slice_index a.rows place) (slice_index a.rows k) (place * 2 ^ a.stride2) 0
        (λ e. ne (places_apart is.permutation k place (omega arith) h e))
        ∙ noted.noted k (omega arith))
        (cases_eq k place);
  }
    where
      next : List ℕ
      next = slice_set ids (slice_index a.rows place) (place * 2 ^ a.stride2)

  module _ {ids : List ℕ} (noted : AreNoted a (length a.rows) ids) where
    -- each row has the id of its place
    pub id_of_place : (row : ℕ) → row < length a.rows → slice_index ids row ≡ place_of a row * 2 ^ a.stride2
    id_of_place row h =
        let at = row_at_place is.permutation row h in
        ap (slice_index ids) (sym at.1) ∙ noted.noted (place_of a row) at.0

    -- these are ids of rows
    pub are_ids : (t : Transitions) → Fits a t → All (IsRowId t) ids
    are_ids t fits k d h =
        let low : k < length a.rows = omega (arith, noted.count) in
        let place = row_at_place is.permutation k low in
        let n = fits.count in
        let is_id : IsRowId t (place_of a k * 2 ^ a.stride2) =
        rw fits.stride2
        (record {
          whole = mul-mod_left (place_of a k) (2 ^ t.stride2);
          below = rw (mul-div_cancel (place_of a k) (pow_pos t.stride2)) (rw (← n) place.0);
        }) in
        subst (IsRowId t) (sym (id_of_place k low) ∙ get_or_default ids k 0 d h) is_id

    -- to look up the id of an id's row is to rename it
    pub looked_up : (t : Transitions) → Fits a t → AreRows t
        → with_ids (λ id. slice_index ids (row_of t id)) t ≡ with_ids (new_id a) t
    looked_up t fits rows =
        with_ids-same t (λ id. slice_index ids (row_of t id)) (new_id a) rows
        (λ id is_id.
        let low : row_of t id < length a.rows = rw fits.count is_id.below in
        id_of_place (row_of t id) low
        ∙ ap (λ s. place_of a (id / 2 ^ s) * 2 ^ a.stride2) (sym fits.stride2))

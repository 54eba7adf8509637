-- A table that keeps some of its rows under other ids: where its rows lead.
use Rattle.rx_spec.proofs.Prelude.{◌≡◌, ◌<◌, ◌+◌, ◌*◌, ◌/◌, ◌%◌, ◌∙◌, ℕ, List, length, map, ap, arith, refl, subst, sym}
use Rattle.rx_spec.proofs.Prelude.{lt-ltb, length-map, get_or-map, get_or-map-range_with_len, mod-mul-add}
use Rattle.rx_spec.proofs.Prelude.{length-map-range_with_len, div-mul-add, row_fits, slice_index, Anchored}
use Rattle.rx_spec.specs.declared.Start.{Start}
use Rattle.rx_dense.specs.Builder.{kept, renamed_id, renamed_word}
use Rattle.rx_dense.specs.Layouts.{AreRows, AreStarts, Layout, column, machine_of, mode_place, stride}
use Rattle.rx_dense.proofs.Rows.{column_within, start_within}

-- These rows are left, and what led to a row leads to the row whose id the list has for it.
pub record IsJoinedBy (old : Layout) (rows ids : List ℕ) (new : Layout) : Type 0 where
  pub rest : new ≡ record old { words = new.words; starts = new.starts }
  pub count : length new.words ≡ length rows * stride old
  pub starts : new.starts ≡ map (renamed_id old ids) old.starts
  pub nexts : (place unit : ℕ) → place < length rows → unit < 257
      → (machine_of new).next place unit
      ≡ slice_index ids ((machine_of old).next (slice_index rows place) unit) / stride old
  pub entries : (mode : Anchored) (start : Start) → mode_place mode < length old.starts
      → (machine_of new).entry mode start ≡ slice_index ids ((machine_of old).entry mode start) / stride old

pub joined_by : (l : Layout) (rows ids : List ℕ) → AreRows l → AreStarts l → (new : Layout) → new ≡ kept l rows ids
    → IsJoinedBy l rows ids new
joined_by l rows ids are_rows are_starts new is =
    subst (IsJoinedBy l rows ids) (sym is) (record {
      rest = refl;
      count = length-map-range_with_len word 0 (length rows * stride l);
      starts = refl;
      nexts = λ place unit h within.
          let low = column_within l are_rows.classes unit within in
          let inside : column l unit < stride l = omega (arith, low, are_rows.fits) in
          let fits = row_fits place (stride l) (length rows) (stride l) h (omega arith) in
          let k = place * stride l + column l unit in
          let there : k < length rows * stride l = omega (arith, fits, inside) in
          ap (λ id. id / stride l)
          (get_or-map-range_with_len word 0 (length rows * stride l) k k 0 there (omega arith)
          ∙ rw (
            div-mul-add place (stride l) (column l unit) inside,
            mod-mul-add place (stride l) (column l unit) inside,
            mod-mul-add (slice_index rows place) (stride l) (column l unit) inside,
            lt-ltb _ _ low,
          ) refl);
      entries = λ mode start has.
          let there : mode_place mode < length (map (renamed_id l ids) l.starts) =
          omega (arith, length-map l.starts (renamed_id l ids)) in
          rw (lt-ltb _ _ has, lt-ltb _ _ there)
          (ap (λ id. id / stride l)
          (get_or-map (renamed_id l ids) l.starts _ 0 0 (start_within l are_starts mode start has)));
    })
  where
    word : ℕ → ℕ
    word k = renamed_word l ids (slice_index rows (k / stride l) * stride l + k % stride l)

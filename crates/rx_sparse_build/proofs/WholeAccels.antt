-- The needles of a sound table's accelerated rows pass the tests of an image's needles.
use Rattle.rx_spec.proofs.Prelude.{common_steps, ◌≡◌, ℕ, ◌+◌, ◌*◌, ◌/◌, ◌^◌, ◌<◌, ◌≤◌, Bool, true, List, [], length}
use Rattle.rx_spec.proofs.Prelude.{get_or, refl, sym, ap, subst, ◌∙◌, arith, inl, inr, if◌then◌else◌, cases_lt, eq-eqb}
use Rattle.rx_spec.proofs.Prelude.{and_from, get_or_past, bytes_eq-Decides, IsSound, leaving}
use Rattle.rx_dense.specs.Layouts.{AreRows, Layout, needles_of_id, place_in_range, row_count, stride, table_of}
use Rattle.rx_order.specs.RowOrder.{IsRange}
use Rattle.rx_order.proofs.KindNumbers.{at_most}
use Rattle.rx_dense_image.specs.Marks.{AreReadAccels}
use Rattle.rx_dense_image.specs.Closing.{accels_stand, has_needles, leaves, leaving_id, range_len}
use Rattle.rx_image_parts.proofs.EachBelow.{all_of}
use Rattle.rx_image_parts.proofs.IdTables.{leaving_same}
use Rattle.rx_dense_image.proofs.IdTables.{id_table}
use Rattle.rx_dense_image.proofs.LeavingRows.{leaving_is}
use Rattle.rx_sparse_build.proofs.RangeRows.{range_at}

-- ---- needles

module _ (l : Layout) (rows : AreRows l) (sound : IsSound (table_of l))
    (accels : IsRange l l.special.min_accel l.special.max_accel)
    (count : length l.accels ≡ range_len l l.special.min_accel l.special.max_accel)
    (quit : l.special.quit ≡ stride l) where
  -- those of an accelerated row, and how many these are
  record HasNeedles (i row : ℕ) : Type 0 where
    pub id : row * stride l ≡ l.special.min_accel + i * stride l
    pub below : row < row_count l
    pub are : get_or l.accels i [] ≡ leaving (table_of l) row
    pub some : 1 ≤ length (get_or l.accels i [])
    pub few : length (get_or l.accels i []) ≤ 3

  needles_at : (i : ℕ) → i < length l.accels → HasNeedles i (l.special.min_accel / stride l + i)
  needles_at i lt =
      let at = range_at l l.special.min_accel l.special.max_accel accels i (omega (arith, lt, count)) in
      let row : ℕ = l.special.min_accel / stride l + i in
      let kept : needles_of_id l (row * stride l) ≡ get_or l.accels i [] =
      ap
      (λ (b : Bool). if b then get_or l.accels (place_in_range l l.special.min_accel (row * stride l)) [] else [])
      at.within
      ∙ ap (λ (k : ℕ). get_or l.accels k []) at.place in
      record {
        id = at.id;
        below = at.below;
        are = sym kept ∙ sound.needles row at.below at.within;
        some = omega (arith, ap length kept, sound.some_needle row at.below at.within);
        few = omega (arith, ap length kept, sound.few_needles row at.below at.within);
      }

  needles_pass : (i : ℕ) → i < length l.accels → has_needles l i ≡ true
  needles_pass i lt =
      let h = needles_at i lt in
      let row : ℕ = l.special.min_accel / stride l + i in
      let leave : List ℕ = leaving_id l (l.special.min_accel + i * stride l) in
      let leaves = leaving_is l (row * stride l) ∙ leaving_same (id_table l rows quit) row h.below in
      let same : (get_or l.accels i []) ≡ leave = h.are ∙ sym leaves ∙ ap (leaving_id l) h.id in
      rw (at_most _ _ h.some, at_most _ _ h.few, (bytes_eq-Decides (get_or l.accels i []) leave).1 same) refl

  pub accels_closed : accels_stand l ≡ true
  accels_closed = grind (arith, common_steps, and_from, eq-eqb, all_of, needles_pass)

  pub accels_read : length l.accels < 2 ^ 32 → AreReadAccels l.accels
  accels_read few = record {
    few = few;
    few_needles = λ i. elim (cases_lt i (length l.accels)) [
      | inl lt ↦ (needles_at i lt).few
      | inr past ↦ (
          subst (λ (t : List ℕ). length t ≤ 3) (sym (get_or_past l.accels i [] past)) (omega arith))
    ];
  }

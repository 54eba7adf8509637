-- The rows of a sound table pass the tests of an image's rows.
use Rattle.rx_spec.proofs.Prelude.{common_steps, ◌≡◌, ℕ, zero, suc, ◌+◌, ◌-◌, ◌*◌, ◌/◌, ◌%◌, ◌^◌, ◌<◌, ◌≤◌, true, not}
use Rattle.rx_spec.proofs.Prelude.{◌&&◌, eqb, length, slice_index, sym, ap, subst, ◌∙◌, arith, inl, inr, mul-div_cancel}
use Rattle.rx_spec.proofs.Prelude.{mul-mod_left, cases_lt, eq-eqb, eqb-true, lt-ltb, and_from, get_or-take, length-take}
use Rattle.rx_spec.proofs.Prelude.{div-add-mod', pow_pos, IsSound}
use Rattle.std.proofs.Math.Nat.{div-le_self}
use Rattle.rx_base.specs.ByteClasses.{alphabet_len}
use Rattle.rx_dense.specs.Layouts.{AreRows, IsRowId, Layout, column, is_row_id, stride, table_of}
use Rattle.rx_dense.proofs.Rows.{quotient, stride_few}
use Rattle.rx_order.proofs.KindNumbers.{at_most}
use Rattle.rx_dense_image.specs.Rows.{AreReadRows, is_entry, rows_of}
use Rattle.rx_dense_image.specs.Closing.{rows_stand}
use Rattle.rx_image_parts.proofs.EachBelow.{all_of}
use Rattle.rx_order.proofs.UsedColumns.{column_used}
use Rattle.rx_sparse_build.proofs.Places.{all_places, low_dead, not_both, row_below}

-- the id of a row passes the test
pub row_id_passes : (l : Layout) (id : ℕ) → IsRowId l id → is_row_id l id ≡ true
row_id_passes l id is = rw (eq-eqb _ _ is.whole) (lt-ltb _ _ (omega (arith, pow_pos l.stride2, is.below)))

-- ---- read

some_exponent : (s n : ℕ) → n + 2 ≤ 2 ^ s → 1 ≤ s
some_exponent zero n h = let one : n + 2 ≤ 1 = h in absurd (omega (arith, one))
some_exponent (suc s) n h = omega arith

pub rows_read : (l : Layout) → AreRows l → AreReadRows (rows_of l)
rows_read l rows = record {
  classes = rows.classes;
  some = some_exponent l.stride2 (slice_index l.classes 255) rows.fits;
  exponent = rows.exponent;
  fits = rows.fits;
  whole = rows.whole;
  few = omega (arith, div-le_self (length l.words) (stride l), rows.few, stride_few l.stride2 rows.exponent);
  padded = record { zero = rows.past_alphabet };
}

-- ---- closed

module _ (l : Layout) (rows : AreRows l) (sound : IsSound (table_of l)) where
  some : 0 < stride l
  some = pow_pos l.stride2

  eoi_goes_on : (k : ℕ) → k < length l.words → k % stride l ≡ alphabet_len l.classes - 1
      → slice_index l.words k ≡ stride l → ⊥
  eoi_goes_on k lt last quits =
      let one : 1 * stride l ≡ stride l = omega arith in
      let is : column l 256 ≡ k % stride l = omega (arith, last) in
      sound.eoi_goes_on (k / stride l) (row_below k (length l.words) (stride l) rows.whole lt)
      (ap (λ (n : ℕ). n / stride l) ((grind (arith, common_steps, div-add-mod')) ∙ quits ∙ sym one) ∙ mul-div_cancel 1
      some)

  entry : (k : ℕ) → k < length l.words → is_entry (rows_of l) k ≡ true
  entry k lt =
      and_from (is_row_id l (slice_index l.words k))
      (not (eqb (k % stride l) (alphabet_len l.classes - 1) && eqb (slice_index l.words k) (stride l)))
      (row_id_passes l (slice_index l.words k) (rows.next_ids k lt))
      (not_both _ _ (λ p q. eoi_goes_on k lt (eqb-true _ _ p) (eqb-true _ _ q)))

  dead_word : (k : ℕ) → k < 2 * stride l → slice_index l.words k ≡ 0
  dead_word k low =
      elim (cases_lt (k % stride l) (alphabet_len l.classes)) [
        | inl at ↦ (
            let unit = column_used l rows.classes (k % stride l) at in
            let row_low : k / stride l < 2 =
            subst (λ (n : ℕ). k / stride l < n) (mul-div_cancel 2 some)
            (row_below k (2 * stride l) (stride l) (mul-mod_left 2 (stride l)) low) in
            let led : slice_index l.words k / stride l ≡ 0 =
            ap (λ (n : ℕ). n / stride l) (sym (grind (arith, common_steps, div-add-mod')))
            ∙ low_dead sound.is_table (k / stride l) unit.0 row_low unit.1 in
            sym (quotient (slice_index l.words k) (stride l) (rows.next_ids k (omega (arith, rows.two, low))).whole)
            ∙ ap (λ (n : ℕ). n * stride l) led
            ∙ (omega arith))
        | inr past ↦ (rows.past_alphabet k (omega (arith, rows.two, low)) past)
      ]

  pub rows_closed : rows_stand l ≡ true
  rows_closed =
      grind (
        arith,
        common_steps,
        at_most,
        and_from,
        all_of,
        entry,
        all_places,
        length-take,
        eq-eqb,
        get_or-take,
        dead_word,
      )

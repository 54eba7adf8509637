-- What the closing tests say, as facts.
use Rattle.rx_spec.proofs.Prelude.{◌≡◌, ℕ, ◌+◌, ◌-◌, ◌*◌, ◌/◌, ◌<◌, ◌≤◌, true, leb, eqb, length, take, slice_index}
use Rattle.rx_spec.proofs.Prelude.{get_or, list_all, range_with_len, and_parts, eqb-true, leb-true, max_id}
use Rattle.rx_dense.specs.Layouts.{Layout, row_count, stride}
use Rattle.rx_dense_image.specs.Rows.{are_entries, have_ids, is_entry, rows_of}
use Rattle.rx_dense_image.specs.Closing.{accels_stand, are_lists, are_named, are_special_rows, has_needles, is_closed}
use Rattle.rx_dense_image.specs.Closing.{is_list, is_start_row, is_universal, lead_to_dead, lists_stand, range_len}
use Rattle.rx_dense_image.specs.Closing.{rows_stand, special_stand, starts_stand}
use Rattle.rx_image_parts.specs.SpecialIds.{is_named}
use Rattle.rx_image_parts.proofs.EachBelow.{all_at, each_at}
use Rattle.rx_dense_image.proofs.AccelRows.{AreSpecialRows, special_rows}

pub record AreClosed (l : Layout) : Type 0 where
  pub two : 2 ≤ row_count l
  pub ids : length l.words - stride l ≤ max_id
  pub entries : (k : ℕ) → k < length l.words → is_entry (rows_of l) k ≡ true
  pub dead : (k : ℕ) → k < length (take (2 * stride l) l.words) → get_or (take (2 * stride l) l.words) k 0 ≡ 0
  pub special : AreSpecialRows l
  pub named : (row : ℕ) → row < l.special.max / stride l + 1 → is_named l.special (row * stride l) ≡ true
  pub starts : (k : ℕ) → k < length l.starts → is_start_row l (slice_index l.starts k) ≡ true
  pub list_count : length l.slices / 2 ≡ range_len l l.special.min_match l.special.max_match
  pub lists : (i : ℕ) → i < length l.slices / 2 → is_list l i ≡ true
  pub accel_count : length l.accels ≡ range_len l l.special.min_accel l.special.max_accel
  pub needles : (i : ℕ) → i < length l.accels → has_needles l i ≡ true

pub closed : (l : Layout) → is_closed l ≡ true → AreClosed l
closed l test =
    let t3 = and_parts _ (lists_stand l) (and_parts _ (accels_stand l) test).0 in
    let t1 = and_parts (rows_stand l) (special_stand l) (and_parts _ (starts_stand l) t3.0).0 in
    let r1 = and_parts _ (lead_to_dead l) t1.0 in
    let r0 = and_parts (leb 2 (row_count l)) (are_entries (rows_of l)) r1.0 in
    let entries = and_parts (have_ids (rows_of l)) (list_all (is_entry (rows_of l)) (range_with_len 0 (length l.words)))
    r0.1 in
    let special = and_parts (are_special_rows l l.special) (are_named l) t1.1 in
    let s1 = and_parts _ (is_universal l l.universal_anchored) (and_parts _ (starts_stand l) t3.0).1 in
    let s0 = and_parts (list_all (is_start_row l) l.starts) (is_universal l l.universal_unanchored) s1.0 in
    let lists =
    and_parts (eqb (length l.slices / 2) (range_len l l.special.min_match l.special.max_match)) (are_lists l)
    t3.1 in
    let accels =
    and_parts (eqb (length l.accels) (range_len l l.special.min_accel l.special.max_accel))
    (list_all (has_needles l) (range_with_len 0 (length l.accels))) (and_parts _ (accels_stand l) test).1 in
    record {
      two = leb-true _ _ r0.0;
      ids = leb-true _ _ entries.0;
      entries = λ k lt. all_at (length l.words) (is_entry (rows_of l)) k entries.1 lt;
      dead = λ k lt. eqb-true _ _ (each_at (λ word. eqb word 0) (take (2 * stride l) l.words) k r1.1 lt);
      special = special_rows l special.0;
      named = λ row lt.
          all_at (l.special.max / stride l + 1) (λ row. is_named l.special (row * stride l)) row special.1 lt;
      starts = λ k lt. each_at (is_start_row l) l.starts k s0.0 lt;
      list_count = eqb-true _ _ lists.0;
      lists = λ i lt. all_at (length l.slices / 2) (is_list l) i lists.1 lt;
      accel_count = eqb-true _ _ accels.0;
      needles = λ i lt. all_at (length l.accels) (has_needles l) i accels.1 lt;
    }

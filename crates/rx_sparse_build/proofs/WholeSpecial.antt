-- The special ids of a table in order pass the tests of an image's special ids.
use Rattle.rx_spec.proofs.Prelude.{common_steps, ◌≡◌, ◌≢◌, ℕ, ◌+◌, ◌*◌, ◌/◌, ◌<◌, ◌≤◌, true, false, refl, sym, ap, ◌∙◌}
use Rattle.rx_spec.proofs.Prelude.{arith, inl, inr, max, and_parts, cases_lt, eq-eqb, lt-ltb, ne_eqb, le-div, mul-le}
use Rattle.rx_spec.proofs.Prelude.{pow_pos, or-true, IsSound, is_match, is_match_label}
use Rattle.rx_dense.specs.declared.special.Special.{Special}
use Rattle.rx_dense.specs.Specials.{greatest, is_in_range, is_start_id}
use Rattle.rx_dense.specs.Layouts.{AreRows, IsRowId, Layout, is_row_id, row_count, stride, table_of}
use Rattle.rx_dense.proofs.Rows.{multiple_within, quotient, row-below}
use Rattle.rx_order.specs.RowOrder.{IsOrdered, IsRange, is_marked, is_start_row, kind_of}
use Rattle.rx_order.proofs.KindNumbers.{at_most, high_kind, kind_high, label_match}
use Rattle.rx_order.proofs.MarkedRows.{start_row_plain}
use Rattle.rx_image_parts.proofs.SpecialTests.{within_of}
use Rattle.rx_image_parts.proofs.IdTables as by_ids
use Rattle.rx_image_parts.proofs.IdTables.{IdTable}
use Rattle.rx_dense_image.proofs.IdTables.{id_table}
use Rattle.rx_sparse.specs.Sparse.{AreSpecialRows}
use Rattle.rx_sparse_build.proofs.Ordered.{special_rows}
use Rattle.rx_image_parts.specs.SpecialIds.{are_special, begins_after, is_past_quit, is_range, is_named}
use Rattle.rx_dense_image.specs.Closing.{are_named, are_special_rows}
use Rattle.rx_image_parts.proofs.EachBelow.{all_of}
use Rattle.rx_sparse_build.proofs.KindTests.{accelerated_low, after_of, low_accelerated, low_matches, matches_low}
use Rattle.rx_sparse_build.proofs.Places.{rows_rise}
use Rattle.rx_sparse_build.proofs.WholeRows.{row_id_passes}

-- ---- ranges by their tests

pub within_range : (first last id : ℕ) → first ≤ id → id ≤ last → 0 < id → is_in_range first last id ≡ true
within_range first last id from to some = grind (arith, common_steps, at_most, ne_eqb)

module _ (l : Layout) (rows : AreRows l) (sound : IsSound (table_of l)) (ordered : IsOrdered l) where
  some : 0 < stride l
  some = pow_pos l.stride2

  -- the ids of special rows are those of rows
  ids : AreSpecialRows l
  ids = special_rows l rows ordered

  abbrev table : IdTable
  table = id_table l rows ordered.quit

  -- ---- a range

  range_passes : (first last : ℕ) → IsRange l first last → is_range first last ≡ true
  range_passes first last (inl (e, f)) = rw (e, f) refl
  range_passes first last (inr (past, le, is_first, is_last)) = grind (arith, common_steps, ne_eqb, at_most)

  past_passes : (first last : ℕ) → IsRange l first last → is_past_quit l.special.quit first ≡ true
  past_passes first last (inl (e, f)) = rw e refl
  past_passes first last (inr (past, le, is_first, is_last)) = grind (arith, common_steps, lt-ltb, or-true)

  -- the first row of a range that has one
  record BeginsAt (first last row : ℕ) : Type 0 where
    pub id : row * stride l ≡ first
    pub below : row < row_count l
    pub behind : 1 < row
    pub within : is_in_range first last (row * stride l) ≡ true

  begins_at : (first last : ℕ) → IsRange l first last → first ≢ 0 → BeginsAt first last (first / stride l)
  begins_at first last (inl (e, f)) other = absurd (other e)
  begins_at first last (inr (past, le, is_first, is_last)) other =
      let id = quotient first (stride l) is_first.whole in
      let up : l.special.quit + stride l ≤ first =
      multiple_within l.special.quit (stride l) first ids.quit.whole is_first.whole
      (omega (arith, past, ordered.quit)) in
      record {
        id = id;
        below = row-below l first is_first;
        behind = le-div 2 first (stride l) some (omega (arith, up, ordered.quit));
        within =
            within_range first last (first / stride l * stride l) (omega (arith, id)) (omega (arith, id, le))
            (omega (arith, id, past));
      }

  -- ---- the order of the ranges

  kind_is : (row : ℕ) → 1 < row → kind_of l row
      ≡ high_kind (is_match (table_of l) row) ((table_of l).is_accelerated row) (is_start_row l row)
  kind_is row behind = grind (arith, common_steps, kind_high)

  -- of rows behind quit, one that lies no later than a match row is one
  matches_before : (x y : ℕ) → 1 < x → x ≤ y → y < row_count l → is_match (table_of l) y ≡ true
      → is_match (table_of l) x ≡ true
  matches_before x y behind le below matches =
      let low = matches_low (is_match (table_of l) y) ((table_of l).is_accelerated y) (is_start_row l y) matches in
      low_matches (is_match (table_of l) x) ((table_of l).is_accelerated x) (is_start_row l x)
      (omega (arith, kind_is x behind, kind_is y (omega (arith, behind, le)), ordered.kinds x y le below, low))

  -- and one that lies no later than an accelerated row and isn't a match row is accelerated
  accelerated_before : (x y : ℕ) → 1 < x → x ≤ y → y < row_count l → (table_of l).is_accelerated y ≡ true
      → is_match (table_of l) x ≡ false → (table_of l).is_accelerated x ≡ true
  accelerated_before x y behind le below accelerated plain =
      let low = accelerated_low (is_match (table_of l) y) ((table_of l).is_accelerated y) (is_start_row l y)
      accelerated in
      low_accelerated (is_match (table_of l) x) ((table_of l).is_accelerated x) (is_start_row l x) plain
      (omega (arith, kind_is x behind, kind_is y (omega (arith, behind, le)), ordered.kinds x y le below, low))

  start_plain : (row : ℕ) → row < row_count l → is_start_id l.special (row * stride l) ≡ true
      → is_match (table_of l) row ≡ false
  start_plain row below starts =
      let start = (and_parts (is_marked l) (is_start_row l row) (sym (ordered.marks row below) ∙ starts)).1 in
      ap is_match_label (start_row_plain l sound row start)

  -- one range begins no sooner than another where its first row doesn't lie before that of the other
  after : (first last other end : ℕ) → IsRange l first last → IsRange l other end
      → ((x y : ℕ) → BeginsAt first last x → BeginsAt other end y → x ≤ y → first < other → ⊥)
      → begins_after first other ≡ true
  after first last other end range others apart =
      after_of first other
      (λ some others_some.
      let a = begins_at first last range some in
      let b = begins_at other end others others_some in
      elim (cases_lt first other) [
        | inl less ↦ (
            absurd (apart (first / stride l) (other / stride l) a b
            (rows_rise (first / stride l) (other / stride l) (stride l) (omega (arith, less, a.id, b.id))) less))
        | inr le ↦ le
      ])

  accels_after : begins_after l.special.min_accel l.special.min_match ≡ true
  accels_after =
      let s : Special = l.special in
      after s.min_accel s.max_accel s.min_match s.max_match ordered.accels ordered.matches
      (λ x y a m le less.
      let matches = matches_before x y a.behind le m.below ((grind (arith, common_steps, label_match)) ∙ m.within) in
      omega (
        arith,
        less,
        (within_of l.special.min_match l.special.max_match (x * stride l)
            (sym (grind (arith, common_steps, label_match)) ∙ matches)).from,
        a.id,
      ))

  starts_after_matches : begins_after l.special.min_start l.special.min_match ≡ true
  starts_after_matches =
      let s : Special = l.special in
      after s.min_start s.max_start s.min_match s.max_match ordered.starts ordered.matches
      (λ x y a m le less.
      let matches = matches_before x y a.behind le m.below ((grind (arith, common_steps, label_match)) ∙ m.within) in
      let plain = start_plain x a.below a.within in
      cc)

  starts_after_accels : begins_after l.special.min_start l.special.min_accel ≡ true
  starts_after_accels =
      let s : Special = l.special in
      after s.min_start s.max_start s.min_accel s.max_accel ordered.starts ordered.accels
      (λ x y a m le less.
      let accelerated = accelerated_before x y a.behind le m.below m.within (start_plain x a.below a.within) in
      omega (
        arith,
        less,
        (within_of l.special.min_accel l.special.max_accel (x * stride l) accelerated).from,
        a.id,
      ))

  -- ---- all special ids

  pub special_read : are_special l.special ≡ true
  special_read =
      let s : Special = l.special in
      rw (
        range_passes s.min_match s.max_match ordered.matches,
        range_passes s.min_accel s.max_accel ordered.accels,
        range_passes s.min_start s.max_start ordered.starts,
        past_passes s.min_match s.max_match ordered.matches,
        past_passes s.min_accel s.max_accel ordered.accels,
        past_passes s.min_start s.max_start ordered.starts,
        accels_after,
        starts_after_matches,
        starts_after_accels,
      )
      (at_most (greatest s) s.max (omega (arith, ordered.max)))

  pub special_pass : are_special_rows l l.special ≡ true
  special_pass =
      let s : Special = l.special in
      let passes : (id : ℕ) → IsRowId l id → is_row_id l id ≡ true = row_id_passes l in
      rw (
        passes s.max ids.max,
        eq-eqb s.quit (stride l) ordered.quit,
        passes s.min_match ids.min_match,
        passes s.max_match ids.max_match,
        passes s.min_accel ids.min_accel,
        passes s.max_accel ids.max_accel,
        passes s.min_start ids.min_start,
        passes s.max_start ids.max_start,
      )
      refl

  -- ---- each row up to the greatest special one is named

  pub named : are_named l ≡ true
  named =
      all_of (l.special.max / stride l + 1) (λ row. is_named l.special (row * stride l))
      (λ row lt.
      let last : ℕ = l.special.max / stride l in
      let low : row * stride l ≤ l.special.max =
      omega (
        arith,
        mul-le row (stride l) last (stride l) (omega (arith, lt)) (omega arith),
        quotient l.special.max (stride l) ids.max.whole,
      ) in
      let below : row < row_count l = omega (arith, lt, row-below l l.special.max ids.max) in
      (by_ids.named_is table row below ∙ sym (sound.special row below)) ∙ at_most (row * stride l) l.special.max low)

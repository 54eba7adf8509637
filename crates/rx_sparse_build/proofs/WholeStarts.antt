-- The start rows of a sound table pass the tests of an image's start rows.
use Rattle.rx_spec.proofs.Prelude.{◌≡◌, ℕ, ◌+◌, ◌*◌, ◌<◌, ◌≤◌, Bool, true, false, ◌&&◌, not, eqb, Option, Some, None}
use Rattle.rx_spec.proofs.Prelude.{if◌then◌else◌, length, slice_index, refl, sym, ap, subst, ◌∙◌, arith, list_all}
use Rattle.rx_spec.proofs.Prelude.{pow_pos, max_id, Label, Anchored, has_anchored, has_unanchored, IsSound}
use Rattle.rx_spec.specs.declared.Start.{Start}
use Rattle.rx_dense.specs.Builder.{common_start, with_universal_starts}
use Rattle.rx_dense.specs.Specials.{is_match_id}
use Rattle.rx_dense.specs.Layouts.{IsRowId, IsShaped, Layout, is_row_id, label_of_id, patterns_at, place_in_range}
use Rattle.rx_dense.specs.Layouts.{start_id, stride, table_of}
use Rattle.rx_dense.proofs.Rows.{id_few, quotient}
use Rattle.rx_dense.proofs.Shaped.{zero_id}
use Rattle.rx_image_parts.specs.StartTables.{IsAtMost, IsReadStartTable}
use Rattle.rx_dense_image.specs.Closing.{is_start_row, is_universal, starts_stand}
use Rattle.rx_dense_image.specs.Images.{start_table_of}
use Rattle.rx_image_parts.proofs.IdTables.{start_is}
use Rattle.rx_sparse_build.proofs.Places.{all_places}
use Rattle.rx_sparse_build.proofs.StartEntries.{entry_at, few_starts, plain_passes}
use Rattle.rx_sparse_build.proofs.WholeRows.{row_id_passes}

-- no row, or one
IsRowIfSome : Layout → Option ℕ → Type 0
IsRowIfSome l None = Unit {0}
IsRowIfSome l (Some id) = IsRowId l id

if_one : (l : Layout) (b : Bool) (id : ℕ) → IsRowId l id → IsRowIfSome l (if b then Some id else None)
unfolding IsRowIfSome
if_one l true id is = is
if_one l false id is = tt

if_some : (l : Layout) (b : Bool) (o : Option ℕ) → IsRowIfSome l o → IsRowIfSome l (if b then o else None)
unfolding IsRowIfSome
if_some l true o is = is
if_some l false o is = tt

module _ (l : Layout) (h : IsShaped l) where
  start_row : (mode : Anchored) (start : Start) → IsRowId l (start_id l mode start)
  start_row =
      start_is l.starts l.pattern_starts h.starts.count (IsRowId l)
      (zero_id l (let two = h.rows.two in omega (arith, two, pow_pos l.stride2))) h.starts.start_ids

  -- ---- universal starts

  module _ (kept : l ≡ with_universal_starts l) where
    unanchored_row : IsRowIfSome l l.universal_unanchored
    unanchored_row =
        subst (IsRowIfSome l) (sym (ap (λ (m : Layout). m.universal_unanchored) kept))
        (if_some l (has_unanchored l.start_kind) (common_start (start_id l Anchored.No))
        (if_one l _ (start_id l Anchored.No Start.NonWordByte) (start_row Anchored.No Start.NonWordByte)))

    anchored_row : IsRowIfSome l l.universal_anchored
    anchored_row =
        subst (IsRowIfSome l) (sym (ap (λ (m : Layout). m.universal_anchored) kept))
        (if_some l (has_anchored l.start_kind) (common_start (start_id l Anchored.Yes))
        (if_one l _ (start_id l Anchored.Yes Start.NonWordByte) (start_row Anchored.Yes Start.NonWordByte)))

    few : (o : Option ℕ) → IsRowIfSome l o → IsAtMost max_id o
    unfolding IsRowIfSome
    few None is = tt
    few (Some id) is = id_few l h.rows id is

    passes : (o : Option ℕ) → IsRowIfSome l o → is_universal l o ≡ true
    unfolding IsRowIfSome
    passes None is = refl
    passes (Some id) is = row_id_passes l id is

    pub table_read : IsReadStartTable (start_table_of l)
    table_read = record {
      contexts = h.starts.contexts;
      patterns =
          few_starts l.pattern_starts
          (subst (λ (n : ℕ). n ≤ 12 + 6 * (max_id + 1)) h.starts.count h.starts.small);
      unanchored = few l.universal_unanchored unanchored_row;
      anchored = few l.universal_anchored anchored_row;
      count = h.starts.count;
    }

    -- ---- start rows

    module _ (sound : IsSound (table_of l)) (quit : l.special.quit ≡ stride l) where
      entry_plain : (k : ℕ) → k < length l.starts → label_of_id l (slice_index l.starts k) ≡ Label.Plain
      entry_plain k lt =
          let e = entry_at l.starts k lt in
          let row = start_row e.mode e.start in
          ap (label_of_id l) (sym e.is ∙ sym (quotient (start_id l e.mode e.start) (stride l) row.whole))
          ∙ sound.starts_plain e.mode e.start

      start_passes : (k : ℕ) → k < length l.starts → is_start_row l (slice_index l.starts k) ≡ true
      start_passes k lt =
          let id : ℕ = slice_index l.starts k in
          subst (λ (q : ℕ). (is_row_id l id && not (is_match_id l.special id) && not (eqb id q)) ≡ true) quit
          (plain_passes l.special id (patterns_at l (place_in_range l l.special.min_match id)) (is_row_id l id)
          (omega (arith, quit, pow_pos l.stride2)) (row_id_passes l id (h.starts.start_ids k lt)) (entry_plain k lt))

      pub starts_closed : starts_stand l ≡ true
      starts_closed =
          let all : list_all (is_start_row l) l.starts ≡ true = all_places (is_start_row l) l.starts start_passes in
          rw (all, passes l.universal_unanchored unanchored_row, passes l.universal_anchored anchored_row) refl

-- A table that is ready passes what must hold of all parts of an image together.
use Rattle.rx_spec.proofs.Prelude.{common_steps, ◌≡◌, ℕ, ◌<◌, ◌||◌, Bool, true, false, eqb, Option, Some, None, List}
use Rattle.rx_spec.proofs.Prelude.{[], length, get_or, slice_index, refl, sym, ap, subst, ◌∙◌, arith, inl, inr, IfSome}
use Rattle.rx_spec.proofs.Prelude.{if◌then◌else◌, list_all, bytes_eq, eq-eqb, eqb-true, and_from, cases_Bool}
use Rattle.rx_spec.proofs.Prelude.{bytes_eq-Decides, id_of, row_of, Label, leaving}
use Rattle.std.proofs.lemmas.List.Folds.{list_any_at}
use Rattle.rx_search.specs.Starts.{IsId}
use Rattle.rx_dense.specs.Specials.{is_accel_id}
use Rattle.rx_dense.proofs.Rows.{id_at_row}
use Rattle.rx_image_parts.proofs.IdTables.{dead_is, leaving_same, quit_is, quit_some}
use Rattle.rx_order.proofs.KindNumbers.{at_most}
use Rattle.rx_sparse.specs.Rows.{Row, next_among, next_ids, no_range, no_row}
use Rattle.rx_sparse.specs.Layouts.{Layout, ids_of, label_of_row, next_id, row_at, row_count, table_of}
use Rattle.rx_sparse.specs.Facts.{offset_at}
use Rattle.rx_sparse.proofs.RowPlaces.{each_next, next_on_byte, next_row_is_id}
use Rattle.rx_sparse_image.specs.Closing as closing
use Rattle.rx_sparse_image.specs.Closing.{has_needles, is_closed, is_row_id, is_start_row, is_universal, leads_on}
use Rattle.rx_sparse_image.specs.Closing.{row_stands, rows_stand}
use Rattle.rx_sparse_image.proofs.EachRow.{each_passes}
use Rattle.rx_sparse_image.proofs.LeavingBytes.{leaving_is}
use Rattle.rx_order.proofs.UsedColumns.{class_used}
use Rattle.rx_sparse_build.proofs.Places.{all_places, low_dead}
use Rattle.rx_sparse_build.proofs.RangesLead.{among_at}
use Rattle.rx_sparse_build.proofs.Ready.{IsReady, next_is_id, table, zero_of}
use Rattle.rx_sparse_build.proofs.StartEntries.{entry_at, plain_passes}

-- ---- tests

-- what is asked only where a test holds
asked_if : (b c : Bool) → (b ≡ true → c ≡ true) → (if b then c else true) ≡ true
asked_if true c h = h refl
asked_if false c h = refl

module _ (l : Layout) (ready : IsReady l) where
  -- the id of a row passes the test
  row_id_passes : (id : ℕ) → IsId (ids_of l) id → is_row_id l id ≡ true
  row_id_passes id is =
      list_any_at (λ offset. eqb offset id) (ids_of l) (row_of (ids_of l) id) 0 is
      (eq-eqb _ _ (id_at_row (ids_of l) id is))

  -- ---- a row

  module _ (row : ℕ) (h : row < row_count l) where
    abbrev id : ℕ
    id = id_of (ids_of l) row

    abbrev r : Row
    r = row_at l row

    -- each unit leads to a row
    next_is : (unit : ℕ) → IsId (ids_of l) (next_id l.classes (row_at l row) unit)
    next_is unit = next_row_is_id l ready.shaped row unit h

    -- ---- dead and quit

    module _ (low : row < 2) where
      -- they lead to dead on each unit
      led_zero : (unit : ℕ) → unit < 257 → next_id l.classes (row_at l row) unit ≡ 0
      led_zero unit u =
          zero_of l ready (next_id l.classes r unit) (next_is unit) (low_dead ready.sound.is_table row unit low u)

      -- so each of their ranges does, since a byte has its first class
      range_zero : (i : ℕ) → i < length (row_at l row).ranges → (get_or (row_at l row).ranges i no_range).next ≡ 0
      range_zero i b =
          let are = (ready.shaped.rows.rows row h).ranges in
          let class : ℕ = (get_or r.ranges i no_range).first in
          let used = class_used l.classes ready.shaped.rows.classes 255 class (omega arith)
          (omega (arith, are.ordered i b, are.within i b)) in
          let byte : ℕ = used.0 in
          let some : byte < 256 = used.1 in
          sym (among_at r.ranges (record { ordered = are.ordered; rising = are.rising }) i b)
          ∙ ap (next_among r.ranges) (sym used.2)
          ∙ next_on_byte l.classes r byte some
          ∙ led_zero byte (omega (arith, some))

      next_zero : (i : ℕ) → i < length (next_ids (row_at l row)) → slice_index (next_ids (row_at l row)) i ≡ 0
      next_zero = each_next (λ id. id ≡ 0) r range_zero (led_zero 256 (omega arith))

    -- dead and quit are the first two rows
    is_low : (eqb (id_of (ids_of l) row) 0 || eqb (id_of (ids_of l) row) l.special.quit) ≡ true → row < 2
    is_low test =
        elim (cases_Bool (eqb id 0)) [
          | inl dead ↦ (omega (arith, eqb-true row 0 (sym (dead_is (table l ready) row h) ∙ dead)))
          | inr other ↦ (
              let quit : eqb id l.special.quit ≡ true =
              sym (ap (λ (b : Bool). b || eqb id l.special.quit) other) ∙ test in
              omega (arith, eqb-true row 1 (sym (quit_is (table l ready) row h) ∙ quit)))
        ]

    leads : leads_on l.special (id_of (ids_of l) row) (row_at l row) ≡ true
    leads =
        asked_if (eqb id 0 || eqb id l.special.quit) (list_all (λ next. eqb next 0) (next_ids r))
        (λ test.
        all_places (λ next. eqb next 0) (next_ids r) (λ i b. eq-eqb _ _ (next_zero (is_low test) i b)))

    -- ---- needles

    -- the needles are these bytes
    needles_pass : has_needles l (id_of (ids_of l) row) (row_at l row) ≡ true
    needles_pass =
        let all : List ℕ = closing.leaving l.classes id r in
        asked_if (is_accel_id l.special id) (bytes_eq r.needles all)
        (λ accel. (bytes_eq-Decides r.needles all).1
        (ready.sound.needles row h accel ∙ sym (leaving_is l.classes id r ∙ leaving_same (table l ready) row h)))

    -- ---- all tests of a row

    row_passes : row_stands l (id_of (ids_of l) row) (row_at l row) ≡ true
    row_passes =
        let ids : list_all (is_row_id l) (next_ids r) ≡ true =
        all_places (is_row_id l) (next_ids r) (λ i b. row_id_passes _ (next_is_id l ready row h i b)) in
        rw (ids, leads, needles_pass) refl

  -- there are two rows at least, quit is the second, and each passes
  rows_pass : rows_stand l ≡ true
  rows_pass =
      rw (
        at_most 2 (row_count l) ready.shaped.rows.two,
        eq-eqb _ _ ready.second,
        each_passes (row_stands l) 0 l.rows
            (λ row lt. subst (λ n. (row_stands l) n (get_or l.rows row no_row) ≡ true) (offset_at 0 l.rows row lt)
            (row_passes row lt)),
      ) refl

  -- ---- start rows

  -- each start entry is the id of a row that is plain
  start_passes : (k : ℕ) → k < length l.starts → is_start_row l (slice_index l.starts k) ≡ true
  start_passes k lt =
      let id : ℕ = slice_index l.starts k in
      let row : ℕ = row_of (ids_of l) id in
      let same : id_of (ids_of l) row ≡ id = id_at_row (ids_of l) id (ready.shaped.starts.start_ids k lt) in
      let e = entry_at l.starts k lt in
      let plain : label_of_row l.special id (row_at l row) ≡ Label.Plain =
      ap (λ (n : ℕ). label_of_row l.special n (row_at l row)) (sym same)
      ∙ ap (λ (n : ℕ). (table_of l).machine.label (row_of (ids_of l) n)) (sym e.is)
      ∙ ready.sound.starts_plain e.mode e.start in
      plain_passes l.special id (row_at l row).patterns (is_row_id l id) (quit_some (table l ready))
      (row_id_passes id (ready.shaped.starts.start_ids k lt)) plain

  universal_passes : (o : Option ℕ) → IfSome o (IsId (ids_of l)) → is_universal l o ≡ true
  universal_passes None is = refl
  universal_passes (Some id) is = row_id_passes id is

  -- ---- all together

  pub closed : is_closed (length l.rows) l ≡ true
  closed =
      grind (
        arith,
        common_steps,
        eq-eqb,
        and_from,
        rows_pass,
        row_id_passes,
        all_places,
        start_passes,
        universal_passes,
      )

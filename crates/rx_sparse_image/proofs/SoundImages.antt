-- A layout that is read and closed is a sound table.
use Rattle.rx_spec.proofs.Prelude.{common_steps, [], ◌≡◌, ◌≢◌, ℕ, ◌+◌, ◌*◌, ◌<◌, ◌≤◌, ◌&&◌, ◌||◌, not, Bool, true}
use Rattle.rx_spec.proofs.Prelude.{false, cond, leb, eqb, ltb, Option, Some, None, List, ◌∷◌, length, slice_index}
use Rattle.rx_spec.proofs.Prelude.{Contains, refl, sym, ap, subst, ◌∙◌, arith, IfOk, IfSome, Result, Ok, Err}
use Rattle.rx_spec.proofs.Prelude.{option_map, list_all, bytes_eq, and_parts, eq-eqb, eqb-true, le-ltb, not-true}
use Rattle.rx_spec.proofs.Prelude.{get_or_default, bytes_eq-Decides, id_of, row_of, Label, Anchored, IsTable, leaving}
use Rattle.rx_spec.specs.declared.Start.{Start}
use Rattle.rx_search.specs.Starts.{IsId}
use Rattle.rx_dense.specs.Specials.{is_accel_id, is_match_id, is_quit_id}
use Rattle.rx_dense.specs.Layouts.{context_number, start_entries}
use Rattle.rx_dense.proofs.Rows.{id_at_row}
use Rattle.rx_image_parts.specs.SpecialIds.{is_named}
use Rattle.rx_image_parts.proofs.EachBelow.{each_at}
use Rattle.rx_image_parts.proofs.IdTables.{IdTable, dead_label, leaving_same, patterns_of, quit_label, quit_only}
use Rattle.rx_image_parts.proofs.IdTables.{special_is, start_is}
use Rattle.rx_sparse.specs.Rows.{Row, is_some_list, next_ids}
use Rattle.rx_sparse.specs.Layouts.{IsShaped, Layout, ids_of, next_id, row_at, row_count, Stored, start_id, table_of}
use Rattle.rx_sparse.specs.Facts.{IsSoundLayout}
use Rattle.rx_sparse.proofs.RowPlaces.{next_row_is_id, unit_leads, zero_is_id, zero_row}
use Rattle.rx_sparse_image.specs.Closing as closing
use Rattle.rx_sparse_image.specs.Closing.{is_row_id}
use Rattle.rx_sparse_image.specs.Tested.{IsRead, IsWhole}
use Rattle.rx_sparse_image.proofs.ClosedRows.{AreClosed, closed, eoi_leads, range_leads}
use Rattle.rx_sparse_image.proofs.RowIds.{id_table, row_below}
use Rattle.rx_sparse_image.proofs.LeavingBytes.{leaving_is}
use Rattle.rx_sparse_image.proofs.ShapedImages.{few_needles, shaped_of, tested}

some_list : (ks : List ℕ) → is_some_list ks ≡ true → ks ≡ [] → ⊥
some_list [] test e = cc
some_list (k ∷ ks) test e = cc

-- ---- a layout that was read

module _ (l : Layout) (read : IsRead l) (facts : AreClosed l) where
  shape : IsShaped l
  shape = shaped_of l read facts

  abbrev ids : List ℕ
  ids = ids_of l

  -- ---- rows and ids

  first_row : 0 < row_count l
  first_row = let two = facts.two in omega arith

  abbrev table : IdTable
  table = id_table l shape facts.quit

  -- ---- labels

  not_empty : (row : ℕ) → row < row_count l → (table_of l).machine.label row ≢ Label.Matches []
  not_empty row h e =
      let m = patterns_of table row [] e in
      some_list (row_at l row).patterns (sym (tested l read facts row h).matches ∙ m.0) m.1

  -- ---- next rows

  next_is : (row unit : ℕ) → row < row_count l → IsId ids (next_id l.classes (row_at l row) unit)
  next_is row unit h = next_row_is_id l shape row unit h

  -- dead and quit lead to dead
  ends : (row unit : ℕ) → row < row_count l
      → (eqb (id_of ids row) 0 || eqb (id_of ids row) l.special.quit) ≡ true
      → row_of ids (next_id l.classes (row_at l row) unit) ≡ 0
  ends row unit h test =
      let id : ℕ = id_of ids row in
      let r : Row = row_at l row in
      let all : list_all (λ id. eqb id 0) (next_ids r) ≡ true =
      sym (ap (λ (b : Bool). cond b (list_all (λ id. eqb id 0) (next_ids r)) true) test) ∙ (facts.rows row h).leads in
      let dead : next_id l.classes r unit ≡ 0 =
      let each : (i : ℕ) → i < length (next_ids r) → slice_index (next_ids r) i ≡ 0 =
      λ i b. eqb-true _ _ (each_at (λ id. eqb id 0) (next_ids r) i all b) in
      unit_leads (λ id. id ≡ 0) refl r (range_leads (λ id. id ≡ 0) r each) (eoi_leads (λ id. id ≡ 0) r each)
      l.classes unit in
      ap (row_of ids) dead ∙ (zero_row l.rows first_row)

  dead_ends : (unit : ℕ) → row_of ids (next_id l.classes (row_at l 0) unit) ≡ 0
  dead_ends unit = ends 0 unit first_row (let dead : eqb (id_of ids 0) 0 ≡ true = eq-eqb _ _ table.dead in rw dead refl)

  quit_ends : (unit : ℕ) → row_of ids (next_id l.classes (row_at l 1) unit) ≡ 0
  quit_ends unit =
      ends 1 unit (let two = facts.two in omega arith) (or_last (eqb (id_of ids 1) 0) _ (eq-eqb _ _ (sym facts.quit)))
    where
      or_last : (a b : Bool) → b ≡ true → (a || b) ≡ true
      or_last true b e = refl
      or_last false b e = e

  -- ---- start rows

  start_is_id : (mode : Anchored) (start : Start) → IsId ids (start_id l mode start)
  start_is_id =
      start_is l.starts l.pattern_starts shape.starts.count (IsId ids) (zero_is_id l shape) shape.starts.start_ids

  plain_start : (k : ℕ) → k < length l.starts
      → (table_of l).machine.label (row_of ids (slice_index l.starts k)) ≡ Label.Plain
  plain_start k h =
      let id : ℕ = slice_index l.starts k in
      let row : ℕ = row_of ids id in
      let outer = and_parts _ (not (eqb id l.special.quit)) (facts.starts k h) in
      let inner = and_parts (is_row_id l id) (not (is_match_id l.special id)) outer.0 in
      let same : id_of ids row ≡ id = id_at_row ids id (shape.starts.start_ids k h) in
      let no_quit : is_quit_id l.special (id_of ids row) ≡ false =
      ap (is_quit_id l.special) same
      ∙ ap (λ (b : Bool). b && not (eqb id 0)) (not-true (eqb id l.special.quit) outer.1) in
      grind (arith, common_steps, not-true)

  starts_plain : (mode : Anchored) (start : Start)
      → (table_of l).machine.label (row_of ids (start_id l mode start)) ≡ Label.Plain
  starts_plain =
      start_is l.starts l.pattern_starts shape.starts.count
      (λ id. (table_of l).machine.label (row_of ids id) ≡ Label.Plain)
      (ap (table_of l).machine.label (zero_row l.rows first_row) ∙ dead_label table read.special) plain_start

  past_last : (n k : ℕ) (start : Start) → l.pattern_starts ≡ Some n → n ≤ k
      → row_of ids (start_id l (Anchored.Pattern k) start) ≡ 0
  past_last n k start e le =
      let len : length l.starts ≡ 12 + 6 * n =
      shape.starts.count ∙ ap (λ (o : Option ℕ). start_entries o) e in
      let past : ltb (12 + 6 * k) (length l.starts) ≡ false = le-ltb _ _ (omega arith) in
      let none : start_id l (Anchored.Pattern k) start ≡ 0 =
      ap (λ (b : Bool). cond b (slice_index l.starts (12 + 6 * k + context_number start)) 0) past in
      ap (row_of ids) none ∙ (zero_row l.rows first_row)

  universal_below : (o : Option ℕ) → IfSome o (IsId ids) → (row : ℕ) → option_map (row_of ids) o ≡ Some row
      → row < row_count l
  universal_below None is row e = absurd cc
  universal_below (Some id) is row e = grind (arith, common_steps, row_below)

  -- ---- needles

  needles_are : (row : ℕ) → row < row_count l → is_accel_id l.special (id_of ids row) ≡ true
      → (row_at l row).needles ≡ leaving (table_of l) row
  needles_are row h accel =
      let r : Row = row_at l row in
      let all : List ℕ = closing.leaving l.classes (id_of ids row) r in
      let equal : bytes_eq r.needles all ≡ true =
      sym (ap (λ (b : Bool). cond b (bytes_eq r.needles all) true) accel) ∙ (facts.rows row h).needles in
      (bytes_eq-Decides r.needles all).0 equal ∙ leaving_is l.classes (id_of ids row) r ∙ leaving_same table row h

  needle_count : (row : ℕ) → row < row_count l
      → cond (is_accel_id l.special (id_of ids row)) (ltb 0 (length (row_at l row).needles))
      (eqb (length (row_at l row).needles) 0) ≡ true
  needle_count row h = (and_parts (leb (length (row_at l row).needles) 3) _ (tested l read facts row h).needles).1

  some_needle : (row : ℕ) → row < row_count l → is_accel_id l.special (id_of ids row) ≡ true
      → 1 ≤ length (row_at l row).needles
  some_needle row h accel = grind (arith, common_steps)

  -- ---- special rows

  named : (row : ℕ) → row < row_count l → leb (id_of ids row) l.special.max ≡ true
      → is_named l.special (id_of ids row) ≡ true
  named row h e =
      sym (ap (λ (b : Bool). not b || is_named l.special (id_of ids row)) e) ∙ (tested l read facts row h).special

  -- ---- all together

  is_table_of : IsTable (table_of l)
  is_table_of = record {
    two = facts.two;
    entries = λ mode start. row_below l (start_id l mode start) (start_is_id mode start);
    universal_unanchored = universal_below l.universal_unanchored facts.universal_unanchored;
    universal_anchored = universal_below l.universal_anchored facts.universal_anchored;
    nexts = λ row unit h u. row_below l (next_id l.classes (row_at l row) unit) (next_is row unit h);
    past_last = past_last;
    dead_only = λ row h. refl;
    dead_label = dead_label table read.special;
    dead_stays = λ unit u. dead_ends unit;
    quit_label = quit_label table read.special;
    quit_ends = λ unit u. quit_ends unit;
    quit_only = quit_only table;
    lists = not_empty;
  }

  pub sound_of : IsSoundLayout l
  sound_of = record {
    is_table = is_table_of;
    eoi_goes_on = λ row h e.
        let is : IsId ids (row_at l row).eoi = next_is row 256 h in
        grind (arith, common_steps, id_at_row);
    starts_plain = starts_plain;
    patterns = λ row ks k h e c.
        let known = (tested l read facts row h).known in
        let there = subst (λ (xs : List ℕ). Contains xs k) (sym (patterns_of table row ks e).1) c in
        let is : slice_index (row_at l row).patterns there.0 ≡ k =
        get_or_default (row_at l row).patterns there.0 0 k there.1 ∙ there.2 in
        omega arith;
    needles = needles_are;
    some_needle = some_needle;
    few_needles = λ row h accel. few_needles l read facts row h;
    no_needle = λ row h accel. grind (arith, common_steps, needle_count, eqb-true);
    special = λ row h. special_is table read.special row h (named row h);
  }

-- what can be read is sound
pub sound : (l : Layout) → IsWhole l → IsSoundLayout l
sound l whole = sound_of l whole.read (closed (length l.rows) l whole.closed)

pub sound_result : {A E : Type 0} (r : Result (Stored × A) E) → IfOk r (λ x. IsWhole x.0.layout)
    → IfOk r (λ x. IsSoundLayout x.0.layout)
sound_result (Ok x) whole = sound x.0.layout whole
sound_result (Err e) whole = whole

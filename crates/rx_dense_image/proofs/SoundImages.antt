-- A layout that is read and closed is a sound table.
use Rattle.rx_spec.proofs.Prelude.{common_steps, ◌≡◌, ◌≢◌, ℕ, ◌+◌, ◌-◌, ◌*◌, ◌/◌, ◌%◌, ◌<◌, ◌≤◌, not, Bool, true, false}
use Rattle.rx_spec.proofs.Prelude.{cond, ltb, leb, eqb, Option, Some, None, List, [], length, get_or, slice_index}
use Rattle.rx_spec.proofs.Prelude.{Contains, refl, sym, ap, subst, ◌∙◌, arith, inl, inr, Result, Ok, Err, IfOk}
use Rattle.rx_spec.proofs.Prelude.{list_all, bytes_eq, mul-div_cancel, mul-mod_left, and_parts, eq-eqb, eqb-true}
use Rattle.rx_spec.proofs.Prelude.{le-ltb, leb-true, ltb-true, ne_eqb, cases_Bool, not-true, get_or-take, length-take}
use Rattle.rx_spec.proofs.Prelude.{All-contains, mod-mul-add, pow_pos, row_fits, bytes_eq-Decides, Label, Anchored}
use Rattle.rx_spec.proofs.Prelude.{IsSound, IsTable, leaving}
use Rattle.std.proofs.lemmas.List.Sums.{AllPass-from_list_all}
use Rattle.rx_spec.specs.declared.Start.{Start}
use Rattle.rx_base.specs.ByteClasses.{alphabet_len}
use Rattle.rx_dense.specs.Specials.{is_accel_id, is_in_range, is_match_id}
use Rattle.rx_dense.specs.Layouts.{IsRowId, IsShaped, Layout, is_row_id, label_of_id, needles_of_id, next_id}
use Rattle.rx_dense.specs.Layouts.{patterns_at, place_in_range, row_count, start_id, stride, table_of, universal_row}
use Rattle.rx_dense.proofs.Rows.{column_within, quotient, row-below, valid_id}
use Rattle.rx_image_parts.specs.SpecialIds.{is_range, is_named}
use Rattle.rx_dense_image.specs.Closing.{has_needles, is_list, leaving_id, range_len}
use Rattle.rx_dense_image.specs.Images.{IsRead, IsWhole}
use Rattle.rx_image_parts.proofs.SpecialTests.{accel_range, match_range, range_begins, within_of}
use Rattle.rx_image_parts.proofs.IdTables.{IdTable, dead_label, leaving_same, patterns_of, quit_label, quit_only}
use Rattle.rx_image_parts.proofs.IdTables.{special_is, start_is}
use Rattle.rx_dense_image.proofs.IdTables.{id_table, next_row, place_below}
use Rattle.rx_dense_image.proofs.ClosedFacts.{AreClosed, closed}
use Rattle.rx_dense_image.proofs.ShapedImages.{shaped_of}
use Rattle.rx_dense_image.proofs.LeavingRows.{leaving_is}

division : (d m s : ℕ) → 0 < s → d ≤ m → d / s < m / s + 1
division d m s some le = grind arith

module _ (l : Layout) (read : IsRead l) (facts : AreClosed l) where
  s : ℕ
  s = stride l

  shape : IsShaped l
  shape = shaped_of l read facts

  some : 0 < stride l
  some = pow_pos l.stride2

  -- ---- rows 0 and 1

  zero_row : IsRowId l 0
  zero_row = record {
    whole = let e : 0 % stride l ≡ 0 = omega arith in e;
    below = let two = shape.rows.two in omega arith;
  }

  abbrev table : IdTable
  table = id_table l shape.rows facts.special.quit

  zero_label : label_of_id l 0 ≡ Label.Plain
  zero_label = (let e : 0 ≡ 0 * stride l = omega arith in ap (label_of_id l) e ∙ dead_label table read.marks.special)

  -- a word of the first two rows
  dead_word : (k : ℕ) → k < 2 * stride l → slice_index l.words k ≡ 0
  dead_word k lt =
      sym (get_or-take (2 * stride l) l.words k 0 lt)
      ∙ facts.dead k (omega (arith, length-take (2 * stride l) l.words, shape.rows.two))

  leads_to_dead : (row unit : ℕ) → row < 2 → unit < 257 → next_id l (row * stride l) unit / stride l ≡ 0
  leads_to_dead row unit lt u =
      let times = row_fits row (stride l) 2 (stride l) lt (omega arith) in
      grind (arith, common_steps, dead_word, column_within l read.rows.classes unit u, read.rows.fits)

  -- ---- start entries

  start_is_row : (mode : Anchored) (start : Start) → IsRowId l (start_id l mode start)
  start_is_row = start_is l.starts l.pattern_starts shape.starts.count (IsRowId l) zero_row shape.starts.start_ids

  start_plain_at : (k : ℕ) → k < length l.starts → label_of_id l (slice_index l.starts k) ≡ Label.Plain
  start_plain_at k lt =
      let id : ℕ = slice_index l.starts k in
      let outer = and_parts _ (not (eqb id (stride l))) (facts.starts k lt) in
      let quit : eqb id l.special.quit ≡ false =
      ap (eqb id) facts.special.quit ∙ not-true (eqb id (stride l)) outer.1 in
      grind (arith, common_steps, not-true, and_parts (is_row_id l id) (not (is_match_id l.special id)) outer.0)

  -- ---- universal starts

  universal_below : (o : Option ℕ) (row : ℕ) → universal_row l o ≡ Some row → row < row_count l
  universal_below None row e = absurd cc
  universal_below (Some id) row e =
      elim (cases_Bool (is_row_id l id)) [
        | inl there ↦ (
            let is : Some (id / stride l) ≡ Some row = rw there at e in
            let same : id / stride l ≡ row = cc in
            subst (λ (n : ℕ). n < row_count l) same (row-below l id (valid_id l shape.rows id there)))
        | inr past ↦ (let none : None ≡ Some row = rw past at e in absurd cc)
      ]

  -- ---- next rows

  eoi_apart : (row : ℕ) → row < row_count l → next_id l (row * stride l) 256 / stride l ≢ 1
  eoi_apart row lt e =
      let k : ℕ = row * stride l + (slice_index l.classes 255 + 1) in
      let word : ℕ = slice_index l.words k in
      let within : k < length l.words = place_below l shape.rows row 256 lt (omega arith) in
      let at : k % stride l ≡ alphabet_len l.classes - 1 =
      mod-mul-add row (stride l) (slice_index l.classes 255 + 1) (omega arith) ∙ omega arith in
      let quits : word ≡ stride l =
      sym (quotient word (stride l) (next_row l shape.rows row 256 lt (omega arith)).whole)
      ∙ ap (λ (n : ℕ). n * stride l) e
      ∙ omega (arith, read.rows.fits) in
      let other = rw (eq-eqb _ _ at, eq-eqb _ _ quits) at (and_parts (is_row_id l word) _ (facts.entries k within)).1 in
      absurd cc

  -- ---- labels

  -- the place of a row in a range is below how many rows the range has
  range_place : (first last id : ℕ) → is_range first last ≡ true → is_in_range first last id ≡ true
      → place_in_range l first id < range_len l first last
  range_place first last id range test =
      let h = within_of first last id test in
      let begins = range_begins first last range (omega arith) in
      let none : eqb first 0 ≡ false = ne_eqb first 0 (λ e. absurd (omega arith)) in
      let len : range_len l first last ≡ (last - first) / stride l + 1 =
      ap (λ (b : Bool). cond b 0 ((last - first) / stride l + 1)) none in
      omega (arith, division (id - first) (last - first) (stride l) some (omega (arith, h.to)))

  -- the list of a match row
  match_list : (id : ℕ) → is_match_id l.special id ≡ true
      → is_list l (place_in_range l l.special.min_match id) ≡ true
  match_list id test =
      facts.lists (place_in_range l l.special.min_match id)
      (omega (
        arith,
        range_place l.special.min_match l.special.max_match id (match_range l.special read.marks.special) test,
      ))

  list_some : (i : ℕ) → is_list l i ≡ true → 0 < length (patterns_at l i)
  list_some i test =
      let outer = and_parts _ _ test in
      let inner = and_parts _ (not (eqb (slice_index l.slices (2 * i + 1)) 0)) outer.0 in
      let both = and_parts (ltb (slice_index l.slices (2 * i)) (length l.pattern_ids)) _ inner.0 in
      grind (arith, common_steps, leb-true, above (slice_index l.slices (2 * i + 1)) inner.1)
    where
      above : (n : ℕ) → not (eqb n 0) ≡ true → 0 < n
      above n h = grind arith

  list_of : (row : ℕ) (ks : List ℕ) → label_of_id l (row * stride l) ≡ Label.Matches ks
      → (is_list l (place_in_range l l.special.min_match (row * stride l)) ≡ true)
      × (patterns_at l (place_in_range l l.special.min_match (row * stride l)) ≡ ks)
  list_of row ks e =
      let h = patterns_of table row ks e in (match_list (row * stride l) h.0, h.1)

  known_patterns : (row : ℕ) (ks : List ℕ) (k : ℕ) → label_of_id l (row * stride l) ≡ Label.Matches ks
      → Contains ks k → k < l.pattern_len
  known_patterns row ks k e c =
      let h = list_of row ks e in
      let i : ℕ = place_in_range l l.special.min_match (row * stride l) in
      let all = (and_parts _ (list_all (λ pattern. ltb pattern l.pattern_len) (patterns_at l i)) h.0).1 in
      let each = AllPass-from_list_all (λ pattern. ltb pattern l.pattern_len) (patterns_at l i) all in
      ltb-true _ _
      (All-contains (λ x. ltb x l.pattern_len ≡ true) (patterns_at l i) k each
      (subst (λ (xs : List ℕ). Contains xs k) (sym h.1) c))

  -- ---- needles

  accel_needles : (id : ℕ) → is_accel_id l.special id ≡ true
      → has_needles l (place_in_range l l.special.min_accel id) ≡ true
  accel_needles id test =
      facts.needles (place_in_range l l.special.min_accel id)
      (omega (
        arith,
        range_place l.special.min_accel l.special.max_accel id (accel_range l.special read.marks.special) test,
      ))

  -- the needles that are kept for an accelerated row
  kept_needles : (row : ℕ) → is_accel_id l.special (row * stride l) ≡ true → needles_of_id l (row * stride l)
      ≡ get_or l.accels (place_in_range l l.special.min_accel (row * stride l)) []
  kept_needles row test = grind (arith, common_steps)

  accel_id_is : (row : ℕ) → is_accel_id l.special (row * stride l) ≡ true
      → l.special.min_accel + place_in_range l l.special.min_accel (row * stride l) * stride l ≡ row * stride l
  accel_id_is row test =
      let m : ℕ = l.special.min_accel in
      let d : ℕ = row * stride l - m in
      let h = within_of m l.special.max_accel (row * stride l) test in
      let less : d % stride l < stride l = omega arith in
      let same : (m / stride l + d / stride l) * stride l + d % stride l ≡ row * stride l =
      omega (arith, eqb-true _ _ (and_parts (eqb (m % stride l) 0) _ facts.special.min_accel).0) in
      let whole : d % stride l ≡ 0 =
      sym (mod-mul-add (m / stride l + d / stride l) (stride l) (d % stride l) less)
      ∙ ap (λ (n : ℕ). n % stride l) same
      ∙ mul-mod_left row (stride l) in
      omega arith

  needles_are : (row : ℕ) → row < row_count l → is_accel_id l.special (row * stride l) ≡ true
      → needles_of_id l (row * stride l) ≡ leaving (table_of l) row
  needles_are row lt test =
      let i : ℕ = place_in_range l l.special.min_accel (row * stride l) in
      let equal = (and_parts _ (bytes_eq (get_or l.accels i []) (leaving_id l (l.special.min_accel + i * stride l)))
      (accel_needles (row * stride l) test)).1 in
      kept_needles row test
      ∙ (bytes_eq-Decides (get_or l.accels i []) (leaving_id l (l.special.min_accel + i * stride l))).0 equal
      ∙ ap (leaving_id l) (accel_id_is row test)
      ∙ leaving_is l (row * stride l)
      ∙ leaving_same table row lt

  needle_counts : (row : ℕ) → is_accel_id l.special (row * stride l) ≡ true
      → (1 ≤ length (needles_of_id l (row * stride l))) × (length (needles_of_id l (row * stride l)) ≤ 3)
  needle_counts row test =
      let i : ℕ = place_in_range l l.special.min_accel (row * stride l) in
      let needles : List ℕ = get_or l.accels i [] in
      let counts = and_parts (leb 1 (length needles)) (leb (length needles) 3)
      (and_parts _ (bytes_eq needles (leaving_id l (l.special.min_accel + i * stride l)))
      (accel_needles (row * stride l) test)).0 in
      let len = ap length (kept_needles row test) in
      (omega (arith, leb-true _ _ counts.0), omega (arith, leb-true _ _ counts.1))

  -- ---- special rows

  named : (row : ℕ) → leb (row * stride l) l.special.max ≡ true → is_named l.special (row * stride l) ≡ true
  named row e =
      facts.named row
      (omega (
        arith,
        division (row * stride l) l.special.max (stride l) some (leb-true _ _ e),
        mul-div_cancel row some,
      ))

  -- ---- all together

  is_table_of : IsTable (table_of l)
  is_table_of = record {
    two = facts.two;
    entries = λ mode start. row-below l (start_id l mode start) (start_is_row mode start);
    universal_unanchored = λ row e. universal_below l.universal_unanchored row e;
    universal_anchored = λ row e. universal_below l.universal_anchored row e;
    nexts = λ row unit lt u. row-below l (next_id l (row * stride l) unit) (next_row l shape.rows row unit lt u);
    past_last = λ n k start e le. grind (arith, common_steps, le-ltb);
    dead_only = λ row lt. refl;
    dead_label = dead_label table read.marks.special;
    dead_stays = λ unit u. leads_to_dead 0 unit (omega arith) u;
    quit_label = quit_label table read.marks.special;
    quit_ends = λ unit u. leads_to_dead 1 unit (omega arith) u;
    quit_only = quit_only table;
    lists = λ row lt. (λ e. let h = list_of row [] e in absurd (omega (arith, list_some _ h.0, ap length h.1)));
  }

  pub sound_of : IsSound (table_of l)
  sound_of = record {
    is_table = is_table_of;
    eoi_goes_on = eoi_apart;
    starts_plain = λ mode start.
        let id : ℕ = start_id l mode start in
        ap (label_of_id l) (quotient id (stride l) (start_is_row mode start).whole)
        ∙ start_is l.starts l.pattern_starts shape.starts.count (λ id. label_of_id l id ≡ Label.Plain) zero_label
        start_plain_at mode start;
    patterns = λ row ks k lt e c. known_patterns row ks k e c;
    needles = needles_are;
    some_needle = λ row lt test. (needle_counts row test).0;
    few_needles = λ row lt test. (needle_counts row test).1;
    no_needle = λ row lt test.
        ap
        (λ (b : Bool).
        cond b (get_or l.accels (place_in_range l l.special.min_accel (row * stride l)) []) []) test;
    special = λ row lt. special_is table read.marks.special row lt (named row);
  }

pub sound : (l : Layout) → IsWhole l → IsSound (table_of l)
sound l whole = sound_of l whole.read (closed l whole.closed)

pub sound_result : {A E : Type 0} (r : Result (Layout × A) E) → IfOk r (λ x. IsWhole x.0)
    → IfOk r (λ x. IsSound (table_of x.0))
sound_result (Ok x) whole = sound x.0 whole
sound_result (Err e) whole = whole

-- The sparse table of a dense one is the same table.
use Rattle.rx_spec.proofs.Prelude.{common_steps, ◌≡◌, ℕ, ◌+◌, ◌-◌, ◌*◌, ◌/◌, ◌<◌, ◌==◌, ◌&&◌, Bool, true, false, not}
use Rattle.rx_spec.proofs.Prelude.{nat_le, Option, Some, None, List, [], ◌∷◌, length, map, slice_index, drop, refl, ap}
use Rattle.rx_spec.proofs.Prelude.{ap₂, sym, ◌∙◌, ◌⊎◌, inl, inr, subst, ⊎_elim, arith, length-drop, length-take-le}
use Rattle.rx_spec.proofs.Prelude.{if◌then◌else◌, nat_lt, option_map, IfSome, zero-div, cases_eq, cases_lt, eq-eqb}
use Rattle.rx_spec.proofs.Prelude.{lt-ltb, le-ltb, ne_eqb, nat_tests, get_or-take, get_or-drop, get_or-map, length-map}
use Rattle.rx_spec.proofs.Prelude.{get_or-map-range_with_len, length-map-range_with_len, pow_pos, row_fits, id_of}
use Rattle.rx_spec.proofs.Prelude.{row_of, IsWord, Label, run, Anchored, AreSame, IsTable, Table, row_after}
use Rattle.std.proofs.lemmas.List.Kept.{AllPairs-from_increasing}
use Rattle.rx_lemmas.proofs.Words.{IsWord-head, IsWord-tail, run-cons, run-nil}
use Rattle.rx_spec.specs.declared.Start.{Start}
use Rattle.rx_lemmas.proofs.Firsts.{by_test}
use Rattle.rx_lemmas.proofs.Ids.{row_of-id_of}
use Rattle.rx_lemmas.proofs.Tables.{SameSettings-refl, sound_same}
use Rattle.rx_base.specs.ByteClasses.{alphabet_len}
use Rattle.rx_search.specs.Starts.{IsId}
use Rattle.rx_dense.specs.Specials.{is_accel_id, is_in_range, is_match_id, is_quit_id, is_start_id}
use Rattle.rx_dense.specs.declared.special.Special.{Special}
use Rattle.rx_dense.specs.Layouts as dense
use Rattle.rx_dense.specs.Layouts.{IsRowId, context_number, mode_place, stride}
use Rattle.rx_dense.specs.Builder.{renamed_id}
use Rattle.rx_dense.specs.Facts as dense_facts
use Rattle.rx_dense.specs.States as states
use Rattle.rx_dense.proofs.Rows.{class_below, class_column, column_within, quotient, row-below, start_within, valid_id}
use Rattle.rx_dense.proofs.Shaped.{zero_id}
use Rattle.rx_dense.proofs.States.{row_within}
use Rattle.rx_sparse.specs.declared.ranges.ClassRange.{ClassRange}
use Rattle.rx_sparse.specs.Rows.{Row, has_class, next_among, no_row, offsets_from, row_len, rows_len}
use Rattle.rx_sparse.specs.Layouts.{ids_of, label_of_row, next_id, row_at, start_id, table_of}
use Rattle.rx_sparse.specs.Facts.{IsSoundLayout, length-offsets, offset_at, offsets_are_ids}
use Rattle.rx_sparse.specs.Sparse.{AreSpecialRows, dense_rows, offsets_of, patterns_of_id, renamed_range, renamed_row}
use Rattle.rx_sparse.specs.Sparse.{renamed_special, row_of_dense, sparse_of, universal_offset}
use Rattle.rx_sparse.proofs.DenseRanges.{led}

-- ---- numbers that lie alike pass the same tests

abbrev pub LieAlike : (a b c d : ℕ) → Type 0
LieAlike a b c d = ((a < b) × (c < d)) ⊎ (((a ≡ b) × (c ≡ d)) ⊎ ((b < a) × (d < c)))

pub le_alike : (a b c d : ℕ) → LieAlike a b c d → nat_le a b ≡ nat_le c d
le_alike a b c d (inl (p, q)) = grind (arith, nat_tests)
le_alike a b c d (inr (inl (p, q))) = grind (arith, nat_tests)
le_alike a b c d (inr (inr (p, q))) = grind (arith, nat_tests)

pub lt_alike : (a b c d : ℕ) → LieAlike a b c d → nat_lt a b ≡ nat_lt c d
lt_alike a b c d (inl (p, q)) = grind (arith, nat_tests)
lt_alike a b c d (inr (inl (p, q))) = grind (arith, nat_tests)
lt_alike a b c d (inr (inr (p, q))) = grind (arith, nat_tests)

pub eq_alike : (a b c d : ℕ) → LieAlike a b c d → (a == b) ≡ (c == d)
eq_alike a b c d (inl (p, q)) = grind (arith, nat_tests)
eq_alike a b c d (inr (inl (p, q))) = grind (arith, nat_tests)
eq_alike a b c d (inr (inr (p, q))) = grind (arith, nat_tests)

-- ---- rows whose ids are renamed

module _ (f : ℕ → ℕ) where
  pub offsets-renamed : (at : ℕ) (rows : List Row)
      → offsets_from at (map (renamed_row f) rows) ≡ offsets_from at rows
  unfolding offsets_from
  offsets-renamed at [] = refl
  offsets-renamed at (row ∷ rows) =
      ap (λ n. at ∷ offsets_from (at + n) (map (renamed_row f) rows))
      (omega (arith, length-map row.ranges (renamed_range f)))
      ∙ ap (λ ids. at ∷ ids) (offsets-renamed (at + row_len row) rows)

  pub rows_len-renamed : (rows : List Row) → rows_len (map (renamed_row f) rows) ≡ rows_len rows
  unfolding rows_len
  rows_len-renamed [] = refl
  rows_len-renamed (row ∷ rows) =
      ap₂ (λ m n. m + n) (omega (arith, length-map row.ranges (renamed_range f))) (rows_len-renamed rows)

  -- dead stays dead
  module _ (dead : f 0 ≡ 0) where
    next-renamed : (ranges : List ClassRange) (class : ℕ)
        → next_among (map (renamed_range f) ranges) class ≡ f (next_among ranges class)
    unfolding next_among
    next-renamed [] class = sym dead
    next-renamed (range ∷ ranges) class =
        by_test (has_class class range) (λ yes. rw yes refl) (λ no. rw no (next-renamed ranges class))

-- ---- a table

module _ (l : dense.Layout) (rows : dense.AreRows l) where
  abbrev offs : List ℕ
  offs = offsets_of l

  abbrev size : ℕ
  size = dense.row_count l

  abbrev renamed : ℕ → ℕ
  renamed = renamed_id l offs

  pub rows_count : length (dense_rows l) ≡ size
  rows_count = grind (arith, common_steps, length-map, length-map-range_with_len)

  pub offsets_count : length offs ≡ size
  offsets_count = length-offsets 0 (dense_rows l) ∙ rows_count

  pub ids_same : ids_of (sparse_of l) ≡ offs
  ids_same = offsets-renamed renamed 0 (dense_rows l)

  zero_is_row : IsRowId l 0
  zero_is_row = zero_id l (let two = rows.two in omega arith)

  -- the offset of a row
  pub row_back : (row : ℕ) → row < size → row_of offs (id_of offs row) ≡ row
  row_back row h = row_of-id_of (offsets_are_ids (dense_rows l)) row (omega (arith, rows_count))

  pub offset_is_id : (row : ℕ) → row < size → IsId offs (id_of offs row)
  offset_is_id row h = omega (arith, row_back row h, offsets_count)

  pub renamed_is_id : (id : ℕ) → IsRowId l id → IsId offs (renamed id)
  renamed_is_id id is = offset_is_id (id / stride l) (row-below l id is)

  pub renamed_back : (id : ℕ) → IsRowId l id → row_of offs (renamed id) ≡ id / stride l
  renamed_back id is = row_back (id / stride l) (row-below l id is)

  first_offset : id_of offs 0 ≡ 0
  unfolding rows_len
  first_offset = offset_at 0 (dense_rows l) 0 (omega (arith, rows_count, row-below, zero_is_row))

  pub renamed_zero : renamed 0 ≡ 0
  renamed_zero = ap (slice_index offs) (zero-div (stride l)) ∙ first_offset

  -- ---- order of ids

  rises : (x y : ℕ) → x < y → y < size → id_of offs x < id_of offs y
  rises x y less h =
      AllPairs-from_increasing offs (offsets_are_ids (dense_rows l)).rising x y 0 less (omega (arith, offsets_count))

  wider : (x y : ℕ) → x < y → x * stride l < y * stride l
  wider x y less = omega (arith, pow_pos l.stride2, row_fits x (stride l) y (stride l) less (omega arith))

  -- rows lie as their ids do, and their offsets too
  lie_alike : (x y : ℕ) → x < size → y < size
      → LieAlike (id_of offs x) (id_of offs y) (x * stride l) (y * stride l)
  lie_alike x y hx hy =
      elim (cases_lt x y) [
        | inl less ↦ (inl (rises x y less hy, wider x y less))
        | inr le ↦ (elim (cases_eq x y) [
          | inl same ↦ (inr (inl (ap (id_of offs) same, ap (λ (n : ℕ). n * stride l) same)))
          | inr ne ↦ (
              inr (inr (rises y x (omega (arith, le, ne)) hx, wider y x (omega (arith, le, ne)))))
        ])
      ]

  -- so do ids and their offsets
  pub ids_alike : (a b : ℕ) → IsRowId l a → IsRowId l b → LieAlike (renamed a) (renamed b) a b
  ids_alike a b is_a is_b =
      subst (λ (n : ℕ). LieAlike (renamed a) (renamed b) a n) (quotient b (stride l) is_b.whole)
      (subst (λ (n : ℕ). LieAlike (renamed a) (renamed b) n (b / stride l * stride l))
      (quotient a (stride l) is_a.whole)
      (lie_alike (a / stride l) (b / stride l) (row-below l a is_a) (row-below l b is_b)))

  -- ---- special rows

  module _ (row : ℕ) (h : row < size) where
    abbrev offset : ℕ
    offset = id_of offs row

    -- an id of a row stands at the same place among the offsets as among the ids
    above : (id : ℕ) → IsRowId l id → nat_le (renamed id) offset ≡ nat_le id (row * stride l)
    above id is =
        le_alike _ _ _ _ (lie_alike (id / stride l) row (row-below l id is) h)
        ∙ ap (λ n. nat_le n (row * stride l)) (quotient id (stride l) is.whole)

    below : (id : ℕ) → IsRowId l id → nat_le offset (renamed id) ≡ nat_le (row * stride l) id
    below id is =
        le_alike _ _ _ _ (lie_alike row (id / stride l) h (row-below l id is))
        ∙ ap (λ n. nat_le (row * stride l) n) (quotient id (stride l) is.whole)

    equal : (id : ℕ) → IsRowId l id → (offset == renamed id) ≡ (row * stride l == id)
    equal id is =
        eq_alike _ _ _ _ (lie_alike row (id / stride l) h (row-below l id is))
        ∙ ap (λ n. row * stride l == n) (quotient id (stride l) is.whole)

    is_dead : (offset == 0) ≡ (row * stride l == 0)
    is_dead = ap (λ n. offset == n) (sym renamed_zero) ∙ equal 0 zero_is_row

    in_range : (first last : ℕ) → IsRowId l first → IsRowId l last
        → is_in_range (renamed first) (renamed last) offset ≡ is_in_range first last (row * stride l)
    in_range first last a b =
        ap₂ (λ (x y : Bool). x && y) (ap₂ (λ (x y : Bool). x && y) (above first a) (below last b)) (ap not is_dead)

  -- ---- rows

  module _ (row : ℕ) (h : row < size) where
    abbrev dense_row : states.Row
    dense_row = states.row_at l row

    pub row_there : row_at (sparse_of l) row ≡ renamed_row renamed (row_of_dense l dense_row)
    row_there =
        let counted : row < length (dense_rows l) = omega (arith, rows_count) in
        let first : row < length (states.rows_from l 0) =
        omega (arith, rows_count, length-map (states.rows_from l 0) (row_of_dense l)) in
        let none : 0 + row ≡ row = omega arith in
        let same : size ≡ size - 0 = omega arith in
        get_or-map (renamed_row renamed) (dense_rows l) row no_row no_row counted
        ∙ ap (renamed_row renamed) (get_or-map (row_of_dense l) (states.rows_from l 0) row dense_row no_row first)
        ∙ ap (λ r. renamed_row renamed (row_of_dense l r))
        (get_or-map-range_with_len (states.row_at l) 0 (size - 0) row row dense_row (omega (arith, same)) none)

    pub next_ids_count : length dense_row.next_ids ≡ alphabet_len l.classes
    next_ids_count =
        length-take-le (alphabet_len l.classes) (drop (row * stride l) l.words)
        (omega (arith, length-drop (row * stride l) l.words, row_within l row h rows))

    next_at : (column : ℕ) → column < alphabet_len l.classes
        → slice_index dense_row.next_ids column ≡ slice_index l.words (row * stride l + column)
    next_at column b =
        get_or-take (alphabet_len l.classes) (drop (row * stride l) l.words) column 0 b
        ∙ get_or-drop (row * stride l) l.words column 0

    pub next_is_row : (column : ℕ) → column < alphabet_len l.classes → IsRowId l (slice_index dense_row.next_ids column)
    next_is_row column b =
        subst (IsRowId l) (sym (next_at column b))
        (rows.next_ids (row * stride l + column) (omega (arith, row_within l row h rows)))

    -- where a unit leads
    next_same : (unit : ℕ) → unit < 257
        → next_id l.classes (renamed_row renamed (row_of_dense l dense_row)) unit
        ≡ renamed (dense.next_id l (row * stride l) unit)
    next_same unit b =
        ⊎_elim
        (λ (eoi : unit ≡ 256).
        let is : (unit == 256) ≡ true = eq-eqb _ _ eoi in
        let last : length dense_row.next_ids - 1 ≡ slice_index l.classes 255 + 1 = omega (arith, next_ids_count) in
        rw is
        (ap (λ n. renamed (slice_index dense_row.next_ids n)) last
        ∙ ap renamed (next_at (slice_index l.classes 255 + 1) (omega arith))))
        (λ (byte : unit ≡ 256 → ⊥).
        let no : (unit == 256) ≡ false = ne_eqb _ _ byte in
        let class : ℕ = slice_index l.classes unit in
        let column = class_column l.classes rows.classes unit (omega arith) in
        let low : class < length dense_row.next_ids - 1 =
        omega (arith, next_ids_count, class_below l.classes rows.classes 255 unit (omega arith) (omega arith)) in
        let r : Row = row_of_dense l dense_row in
        rw no
        (next-renamed renamed renamed_zero r.ranges class
        ∙ ap renamed (led dense_row.next_ids class low)
        ∙ ap renamed (next_at class column)))
        (cases_eq unit 256)

    next_row_id : (unit : ℕ) → unit < 257 → IsRowId l (dense.next_id l (row * stride l) unit)
    next_row_id unit b =
        rows.next_ids (row * stride l + dense.column l unit)
        (omega (arith, row_within l row h rows, column_within l rows.classes unit b))

    next_row_same : (unit : ℕ) → unit < 257
        → (table_of (sparse_of l)).machine.next row unit ≡ (dense.table_of l).machine.next row unit
    next_row_same unit b =
        ap (λ ids. row_of ids (next_id l.classes (row_at (sparse_of l) row) unit)) ids_same
        ∙ ap (λ r. row_of offs (next_id l.classes r unit)) row_there
        ∙ ap (row_of offs) (next_same unit b)
        ∙ renamed_back (dense.next_id l (row * stride l) unit) (next_row_id unit b)

    -- the id of the row
    pub id_there : id_of (ids_of (sparse_of l)) row ≡ id_of offs row
    id_there = ap (λ ids. id_of ids row) ids_same

  -- ---- what a row tells

  module _ (special : AreSpecialRows l) (row : ℕ) (h : row < size) where
    abbrev new : Special
    new = renamed_special renamed l.special

    pub match_same : is_match_id new (id_of offs row) ≡ is_match_id l.special (row * stride l)
    match_same = in_range row h l.special.min_match l.special.max_match special.min_match special.max_match

    quit_same : is_quit_id new (id_of offs row) ≡ is_quit_id l.special (row * stride l)
    quit_same = ap₂ (λ (x y : Bool). x && y) (equal row h l.special.quit special.quit) (ap not (is_dead row h))

    by_kind : (m q : Bool) (ks : List ℕ)
        → (if m then Label.Matches (if m then ks else []) else (if q then Label.Quits else Label.Plain))
        ≡ (if m then Label.Matches ks else (if q then Label.Quits else Label.Plain))
    by_kind true q ks = refl
    by_kind false q ks = refl

    label_same : label_of_row new (id_of offs row) (renamed_row renamed (row_of_dense l (states.row_at l row)))
        ≡ dense.label_of_id l (row * stride l)
    label_same =
        let ks : List ℕ = dense.patterns_at l (dense.place_in_range l l.special.min_match (row * stride l)) in
        ap₂ (λ (m q : Bool). if m then Label.Matches (patterns_of_id l (row * stride l))
        else (if q then Label.Quits else Label.Plain)) match_same quit_same
        ∙ by_kind (is_match_id l.special (row * stride l)) (is_quit_id l.special (row * stride l)) ks

    label_row_same : (table_of (sparse_of l)).machine.label row ≡ (dense.table_of l).machine.label row
    label_row_same = ap₂ (λ (id : ℕ) (r : Row). label_of_row new id r) (id_there row h) (row_there row h) ∙ label_same

  -- ---- start rows

  start_same : dense.AreStarts l → (mode : Anchored) (start : Start)
      → row_of offs (start_id (sparse_of l) mode start) ≡ dense.start_id l mode start / stride l
  start_same starts mode start =
      let place : ℕ = mode_place mode in
      let at : ℕ = place + context_number start in
      let count : length (map renamed l.starts) ≡ length l.starts = length-map l.starts renamed in
      elim (cases_lt place (length l.starts)) [
        | inl there ↦ (
            let new : nat_lt place (length (map renamed l.starts)) ≡ true = lt-ltb _ _ (omega (arith, count, there)) in
            rw (new, lt-ltb _ _ there, get_or-map renamed l.starts at 0 0 (start_within l starts mode start there))
            (renamed_back (slice_index l.starts at) (starts.start_ids at (start_within l starts mode start there))))
        | inr none ↦ (
            let new : nat_lt place (length (map renamed l.starts)) ≡ false = le-ltb _ _ (omega (arith, count, none)) in
            rw (new, le-ltb _ _ none)
            ((ap (row_of offs) (sym renamed_zero) ∙ renamed_back 0 zero_is_row ∙ zero-div (stride l)) ∙ sym
            (zero-div (stride l))))
      ]

  universal_same : (kept : Option ℕ)
      → option_map (row_of offs) (universal_offset l kept) ≡ dense.universal_row l kept
  universal_same None = refl
  universal_same (Some id) =
      by_test (dense.is_row_id l id)
      (λ yes. rw yes (ap (λ (n : ℕ). Some n) (row_back (id / stride l) (row-below l id (valid_id l rows id yes)))))
      (λ no. rw no refl)

  pub universal_is_id : (kept : Option ℕ) → IfSome (universal_offset l kept) (IsId offs)
  universal_is_id None = tt
  universal_is_id (Some id) =
      by_test (dense.is_row_id l id)
      (λ yes.
      let row : ℕ = id / stride l in
      let h = row-below l id (valid_id l rows id yes) in
      rw yes (offset_is_id row h))
      (λ no. rw no tt)

-- ---- the same table

pub same_table : (l : dense.Layout) → dense.IsShaped l → AreSpecialRows l
    → AreSame (dense.table_of l) (table_of (sparse_of l))
same_table l shaped special =
    let rows : dense.AreRows l = shaped.rows in
    let s = l.special in
    let offset : ℕ → ℕ = id_of (offsets_of l) in
    let f : ℕ → ℕ = renamed_id l (offsets_of l) in
    record {
      size = sym (length-map (dense_rows l) (renamed_row f) ∙ rows_count l rows);
      settings = SameSettings-refl (dense.settings_of l);
      entries = λ mode start.
          sym (ap (λ ids. row_of ids (start_id (sparse_of l) mode start)) (ids_same l rows)
          ∙ start_same l rows shaped.starts mode start);
      nexts = λ row unit h b. sym (next_row_same l rows row h unit b);
      labels = λ row h. sym (label_row_same l rows special row h);
      deads = λ row h. refl;
      has_empty = refl;
      is_utf8 = refl;
      is_always_start_anchored = refl;
      pattern_len = refl;
      accelerated = λ row h.
          sym (ap (is_accel_id (renamed_special f s)) (id_there l rows row h)
          ∙ in_range l rows row h s.min_accel s.max_accel special.min_accel special.max_accel);
      needles = λ row h. sym (ap (λ (r : Row). r.needles) (row_there l rows row h));
      starts = λ row h.
          sym (ap (is_start_id (renamed_special f s)) (id_there l rows row h)
          ∙ in_range l rows row h s.min_start s.max_start special.min_start special.max_start);
      specials = λ row h.
          sym (ap (λ id. nat_le id (f s.max)) (id_there l rows row h) ∙ below l rows row h s.max special.max);
      universal_unanchored =
          sym (ap (λ ids. option_map (row_of ids) (universal_offset l l.universal_unanchored)) (ids_same l rows)
          ∙ universal_same l rows l.universal_unanchored);
      universal_anchored =
          sym (ap (λ ids. option_map (row_of ids) (universal_offset l l.universal_anchored)) (ids_same l rows)
          ∙ universal_same l rows l.universal_anchored);
    }

pub sparse_sound : (l : dense.Layout) → dense.IsShaped l → AreSpecialRows l → dense_facts.IsSoundLayout l
    → IsSoundLayout (sparse_of l)
sparse_sound l shaped special sound = sound_same (same_table l shaped special) sound

-- ---- walks

module _ {t u : Table} (same : AreSame t u) (is_table : IsTable t) where
  run_same : (row : ℕ) (word : List ℕ) → row < t.size → IsWord word
      → run u.machine.next row word ≡ run t.machine.next row word
  run_same row [] h is = run-nil u.machine.next row ∙ sym (run-nil t.machine.next row)
  run_same row (unit ∷ word) h is =
      let next : ℕ = t.machine.next row unit in
      run-cons u.machine.next row unit word
      ∙ ap (λ r. run u.machine.next r word) (sym (same.nexts row unit h (IsWord-head unit word is)))
      ∙ run_same next word (is_table.nexts row unit h (IsWord-head unit word is)) (IsWord-tail unit word is)
      ∙ sym (run-cons t.machine.next row unit word)

  pub walks_same : (mode : Anchored) (start : Start) (word : List ℕ) → IsWord word
      → row_after u mode start word ≡ row_after t mode start word
  walks_same mode start word is = grind (arith, common_steps, run_same)

-- The rows of a table that is ready pass the tests of an image's rows, and its other parts can be read too.
use Rattle.rx_spec.proofs.Prelude.{common_steps, ◌≡◌, ◌≢◌, ℕ, ◌+◌, ◌<◌, ◌≤◌, ◌||◌, not, Bool, true, false, eqb, leb}
use Rattle.rx_spec.proofs.Prelude.{ltb, List, [], ◌∷◌, Option, Some, None, length, slice_index, refl, sym, ap, ◌∙◌}
use Rattle.rx_spec.proofs.Prelude.{arith, IfSome, if◌then◌else◌, eq-eqb, lt-ltb, Contains-get_or, max_id, id_of, row_of}
use Rattle.rx_spec.proofs.Prelude.{Label}
use Rattle.rx_lemmas.proofs.Firsts.{by_test}
use Rattle.rx_search.specs.Starts.{IsId}
use Rattle.rx_dense.specs.Specials.{is_accel_id, is_match_id, is_quit_id}
use Rattle.rx_dense.proofs.Rows.{id_at_row}
use Rattle.rx_image_parts.specs.SpecialIds.{is_named}
use Rattle.rx_image_parts.specs.StartTables.{IsAtMost}
use Rattle.rx_order.proofs.KindNumbers.{at_most}
use Rattle.rx_sparse.specs.Rows.{Row, is_some_list, row_len, rows_len}
use Rattle.rx_sparse.specs.Layouts.{IsRow, Layout, ids_of, row_at, row_count, table_of}
use Rattle.rx_sparse.specs.Facts.{offset_at, rows_len-more}
use Rattle.rx_sparse.proofs.RowLengths.{rows_len-take}
use Rattle.rx_sparse.proofs.RowPlaces.{fits_row, id_few, id_small}
use Rattle.rx_sparse_image.specs.Tested.{IsRead, IsTestedRow, bounds_in}
use Rattle.rx_sparse_image.specs.Walks.{may_have}
use Rattle.rx_sparse_image.proofs.Sizes.{rows_few}
use Rattle.rx_sparse_build.proofs.Ready.{IsReady, next_is_id, second_row, special_is, table}
use Rattle.rx_sparse_build.proofs.StartEntries.{few_starts}
use Rattle.rx_sparse_image.proofs.RowIds.{row_below}

-- a test, or not one that is the same
either : (a b : Bool) → a ≡ b → (not a || b) ≡ true
either true b e = sym e
either false b e = refl

-- a list that isn't some is empty
no_list : (ks : List ℕ) → is_some_list ks ≡ false → length ks ≡ 0
no_list [] e = refl
no_list (k ∷ ks) e = absurd cc

module _ (l : Layout) (ready : IsReady l) where
  -- ---- a row

  module _ (row : ℕ) (h : row < row_count l) where
    abbrev id : ℕ
    id = id_of (ids_of l) row

    abbrev r : Row
    r = row_at l row

    is_row : IsRow l row
    is_row = ready.shaped.rows.rows row h

    -- it ends where the rows end, or before
    ends : id_of (ids_of l) row + row_len (row_at l row) ≤ rows_len l.rows
    ends = omega (arith, offset_at 0 l.rows row h, rows_len-more l.rows row h, rows_len-take l.rows (row + 1))

    few_bytes : rows_len l.rows ≤ max_id
    few_bytes = ready.shaped.rows.few

    -- its patterns are numbers of patterns
    known : (i : ℕ) → i < length (row_at l row).patterns → slice_index (row_at l row).patterns i < l.pattern_len
    known i b =
        by_test (is_match_id l.special id)
        (λ yes.
        let label : (table_of l).machine.label row ≡ Label.Matches r.patterns =
        ap (λ (m : Bool). if m then Label.Matches r.patterns
        else (if is_quit_id l.special id then Label.Quits else Label.Plain)) yes in
        ready.sound.patterns row r.patterns (slice_index r.patterns i) h label (Contains-get_or r.patterns i 0 b))
        (λ no. absurd (omega (arith, b, no_list r.patterns (sym is_row.matches ∙ no))))

    -- there are one to three needles of an accelerated row, and none of another
    needles : may_have (is_accel_id l.special (id_of (ids_of l) row)) (length (row_at l row).needles) ≡ true
    needles =
        let n : ℕ = length r.needles in
        let few : leb n 3 ≡ true = at_most n 3 is_row.needles in
        by_test (is_accel_id l.special id)
        (λ yes.
        let some : ltb 0 n ≡ true = lt-ltb 0 n (omega (arith, ready.sound.some_needle row h yes)) in
        rw (few, yes) some)
        (λ no.
        let none : eqb n 0 ≡ true = eq-eqb n 0 (ap length (ready.sound.no_needle row h no)) in
        rw (few, no) none)

    -- its end mark doesn't quit
    eoi_apart : (row_at l row).eoi ≢ l.special.quit
    eoi_apart e =
        ready.sound.eoi_goes_on row h
        (ap (row_of (ids_of l)) (e ∙ ready.second) ∙ (table l ready).back 1 (second_row l ready))

    pub tested_row : IsTestedRow (bounds_in l) (id_of (ids_of l) row) (row_at l row)
    tested_row =
        let fits = fits_row l ready.shaped row h in
        record {
          special = either (leb id l.special.max) (is_named l.special id) (special_is l ready row h);
          few = is_row.ranges.few;
          ordered = is_row.ranges.ordered;
          within = is_row.ranges.within;
          rising = is_row.ranges.rising;
          near = λ i b. id_few l ready.shaped _ (next_is_id l ready row h i b);
          next_ids = fits.next_ids;
          matches = is_row.matches;
          few_patterns = fits.few_patterns;
          patterns = fits.patterns;
          known = known;
          needles = needles;
          eoi = eoi_apart;
          next = omega (arith, ends, few_bytes);
        }

  -- ---- the other parts

  -- a universal start is an id
  few_id : (o : Option ℕ) → IfSome o (IsId (ids_of l)) → IsAtMost max_id o
  few_id None is = tt
  few_id (Some id) is = id_small l ready.shaped id is

  -- each part can be read
  pub read : IsRead l
  read = record {
    few_rows = (let few = ready.shaped.rows.few in omega (arith, few, rows_few l.rows));
    few_patterns = (let few = ready.shaped.few_patterns in omega (arith, few));
    classes = ready.shaped.rows.classes;
    rows = record { each = tested_row; len = refl };
    table = grind (arith, common_steps, few_starts, few_id);
    special = ready.special;
    within =
        let h : (row_of (ids_of l) l.special.max) < row_count l = row_below l l.special.max ready.rows.max in
        omega (arith, id_at_row (ids_of l) l.special.max ready.rows.max, ends (row_of (ids_of l) l.special.max) h);
    quit = ready.quit;
  }

-- What the closing tests say, as facts: of rows by their ids, of where rows lead, and of all parts together.
use Rattle.rx_spec.proofs.Prelude.{common_steps, [], ◌≡◌, ℕ, ◌<◌, ◌≤◌, ◌==◌, Bool, true, leb, Option, Some, None, List}
use Rattle.rx_spec.proofs.Prelude.{◌∷◌, length, get_or, slice_index, sym, ap, subst, ◌∙◌, arith, IfSome, list_all}
use Rattle.rx_spec.proofs.Prelude.{and_parts, eqb-true, leb-true, get_or_default, id_of, row_of}
use Rattle.std.proofs.lemmas.List.Folds.{Any-from_list_any}
use Rattle.rx_lemmas.proofs.Ids.{row_of-id_of}
use Rattle.rx_search.specs.Starts.{IsId}
use Rattle.rx_image_parts.proofs.EachBelow.{each_at}
use Rattle.rx_sparse.specs.Rows.{Row, next_ids, no_range, no_row, offsets_from}
use Rattle.rx_sparse.specs.Layouts.{Layout, ids_of, row_at, row_count}
use Rattle.rx_sparse.specs.Facts.{length-offsets, offset_at, offsets_are_ids}
use Rattle.rx_sparse.proofs.RowTexts.{eoi_there, length-next_ids, next_there}
use Rattle.rx_sparse_image.proofs.EachRow.{each_at as each_row_at}
use Rattle.rx_sparse_image.specs.Closing.{are_special_rows, each_row, has_needles, is_closed, is_row_id, is_start_row}
use Rattle.rx_sparse_image.specs.Closing.{is_universal, leads_on, row_stands, rows_stand, starts_stand}

-- ---- ids

-- a number that passes the test is the id of a row
pub valid_id : (l : Layout) (id : ℕ) → is_row_id l id ≡ true → IsId (ids_of l) id
valid_id l id test =
    let ids : List ℕ = ids_of l in
    let found = Any-from_list_any (λ offset. offset == id) ids test in
    let count = length-offsets 0 l.rows in
    let there : id_of ids found.0 ≡ id =
    get_or_default ids found.0 0 found.1 found.2 ∙ found.3 ∙ eqb-true found.1 id found.4 in
    let back : row_of ids id ≡ found.0 =
    ap (row_of ids) (sym there) ∙ row_of-id_of (offsets_are_ids l.rows) found.0 (omega arith) in
    omega arith

-- a universal start that passes the test is one
pub universal_is : (l : Layout) (o : Option ℕ) → is_universal l o ≡ true → IfSome o (IsId (ids_of l))
universal_is l None test = tt
universal_is l (Some id) test = valid_id l id test

-- a test of all rows is one of each, at its offset
row_at_offset : (test : ℕ → Row → Bool) (at : ℕ) (rows : List Row) (row : ℕ) → each_row test at rows ≡ true
    → row < length rows → test (id_of (offsets_from at rows) row) (get_or rows row no_row) ≡ true
row_at_offset test at rows row passed h =
    subst (λ n. test n (get_or rows row no_row) ≡ true) (sym (offset_at at rows row h))
    (each_row_at test at rows row passed h)

-- ---- where a row leads

-- what holds of each next id holds of where each range and the end mark lead
module _ (P : ℕ → Type 0) (row : Row)
    (all : (i : ℕ) → i < length (next_ids row) → P (slice_index (next_ids row) i)) where
  pub range_leads : (i : ℕ) → i < length row.ranges → P (get_or row.ranges i no_range).next
  range_leads i h = subst P (next_there row.ranges (row.eoi ∷ []) i h) (all i (omega (arith, length-next_ids row)))

  pub eoi_leads : P row.eoi
  eoi_leads = subst P (eoi_there row.ranges row.eoi) (all (length row.ranges) (omega (arith, length-next_ids row)))

-- ---- all parts together

-- what the tests say of a row
pub record Stands (l : Layout) (row : ℕ) : Type 0 where
  pub nexts : (i : ℕ) → i < length (next_ids (row_at l row))
      → IsId (ids_of l) (slice_index (next_ids (row_at l row)) i)
  pub leads : leads_on l.special (id_of (ids_of l) row) (row_at l row) ≡ true
  pub needles : has_needles l (id_of (ids_of l) row) (row_at l row) ≡ true

stands : (l : Layout) (row : ℕ) → row_stands l (id_of (ids_of l) row) (row_at l row) ≡ true → Stands l row
stands l row test = grind (arith, common_steps, and_parts, valid_id)

-- the ids of special rows are those of rows
pub record AreSpecialRows (l : Layout) : Type 0 where
  pub max : IsId (ids_of l) l.special.max
  pub min_match : IsId (ids_of l) l.special.min_match
  pub max_match : IsId (ids_of l) l.special.max_match
  pub min_accel : IsId (ids_of l) l.special.min_accel
  pub max_accel : IsId (ids_of l) l.special.max_accel
  pub min_start : IsId (ids_of l) l.special.min_start
  pub max_start : IsId (ids_of l) l.special.max_start

special_rows : (l : Layout) → are_special_rows l l.special ≡ true → AreSpecialRows l
special_rows l test = grind (arith, common_steps, valid_id)

pub record AreClosed (l : Layout) : Type 0 where
  pub two : 2 ≤ row_count l
  pub quit : l.special.quit ≡ id_of (ids_of l) 1
  pub rows : (row : ℕ) → row < row_count l → Stands l row
  pub special : AreSpecialRows l
  pub starts : (k : ℕ) → k < length l.starts → is_start_row l (slice_index l.starts k) ≡ true
  pub universal_unanchored : IfSome l.universal_unanchored (IsId (ids_of l))
  pub universal_anchored : IfSome l.universal_anchored (IsId (ids_of l))

pub closed : (told : ℕ) (l : Layout) → is_closed told l ≡ true → AreClosed l
closed told l test =
    let t1 = and_parts _ (are_special_rows l l.special) (and_parts _ (starts_stand l) test).0 in
    let t0 = and_parts (row_count l == told) (rows_stand l) t1.0 in
    let r1 = and_parts _ (each_row (row_stands l) 0 l.rows) t0.1 in
    let r0 = and_parts (leb 2 (row_count l)) (l.special.quit == id_of (ids_of l) 1) r1.0 in
    let s1 = and_parts _ (is_universal l l.universal_anchored) (and_parts _ (starts_stand l) test).1 in
    let s0 = and_parts (list_all (is_start_row l) l.starts) (is_universal l l.universal_unanchored) s1.0 in
    record {
      two = leb-true _ _ r0.0;
      quit = eqb-true _ _ r0.1;
      rows = λ row h. stands l row (row_at_offset (row_stands l) 0 l.rows row r1.1 h);
      special = special_rows l t1.1;
      starts = λ k h. each_at (is_start_row l) l.starts k s0.0 h;
      universal_unanchored = universal_is l l.universal_unanchored s0.1;
      universal_anchored = universal_is l l.universal_anchored s1.1;
    }

pub quit_is : (l : Layout) → AreClosed l → IsId (ids_of l) l.special.quit
quit_is l facts =
    let row : row_of (ids_of l) l.special.quit ≡ 1 =
    ap (row_of (ids_of l)) facts.quit ∙ row_of-id_of (offsets_are_ids l.rows) 1 (omega arith) in
    omega (arith, length-offsets 0 l.rows, facts.two)

-- A layout that is read and closed has the shape of every sparse table.
use Rattle.rx_spec.proofs.Prelude.{common_steps, ◌≡◌, ℕ, ◌+◌, ◌-◌, ◌*◌, ◌<◌, ◌≤◌, nat_le, length, take, sym, ap, subst}
use Rattle.rx_spec.proofs.Prelude.{◌∙◌, arith, take-length, and_parts, leb-true, max_id, id_of}
use Rattle.rx_search.specs.Starts.{IsId}
use Rattle.rx_image_parts.proofs.PartLengths.{few_starts}
use Rattle.rx_sparse.specs.Rows.{rows_len}
use Rattle.rx_sparse.specs.Layouts.{AreRows, IsRow, IsShaped, Layout, ids_of, row_at, row_count}
use Rattle.rx_sparse.specs.Facts.{offset_at, rows_len-more}
use Rattle.rx_sparse_image.specs.Tested.{IsRead, IsTestedRow, IsWhole, bounds_in}
use Rattle.rx_sparse_image.proofs.ClosedRows.{AreClosed, closed, eoi_leads, range_leads, valid_id}

module _ (l : Layout) (read : IsRead l) (facts : AreClosed l) where
  pub tested : (row : ℕ) → row < row_count l → IsTestedRow (bounds_in l) (id_of (ids_of l) row) (row_at l row)
  tested row h = read.rows.each row h

  -- all rows have as many bytes as the last row has behind its offset
  pub few_bytes : rows_len l.rows ≤ max_id
  few_bytes =
      let row : ℕ = row_count l - 1 in
      let h : row < row_count l = omega arith in
      let all : take (row + 1) l.rows ≡ l.rows = ap (λ (n : ℕ). take n l.rows) (omega arith) ∙ take-length l.rows in
      omega (arith, (tested row h).next, offset_at 0 l.rows row h, rows_len-more l.rows row h, ap rows_len all)

  pub few_needles : (row : ℕ) → row < row_count l → length (row_at l row).needles ≤ 3
  few_needles row h = leb-true _ _ (and_parts (nat_le (length (row_at l row).needles) 3) _ (tested row h).needles).0

  row_shaped : (row : ℕ) → row < row_count l → IsRow l row
  row_shaped row h =
      let t = tested row h in
      let nexts = (facts.rows row h).nexts in
      record {
        ranges =
            let t = tested row h in
            record { few = t.few; ordered = t.ordered; within = t.within; rising = t.rising };
        nexts = range_leads (IsId (ids_of l)) (row_at l row) nexts;
        eoi = eoi_leads (IsId (ids_of l)) (row_at l row) nexts;
        matches = t.matches;
        patterns = t.patterns;
        needles = few_needles row h;
      }

  rows_shaped : AreRows l
  rows_shaped = record { classes = read.classes; two = facts.two; few = few_bytes; rows = row_shaped }

  pub shaped_of : IsShaped l
  shaped_of = record {
    rows = rows_shaped;
    starts = record {
      contexts = read.table.contexts;
      count = read.table.count;
      small =
          subst (λ (n : ℕ). n ≤ 12 + 6 * (max_id + 1)) (sym read.table.count)
          (few_starts l.pattern_starts read.table.patterns);
      start_ids = λ k h. grind (arith, common_steps, valid_id);
      universal_unanchored = facts.universal_unanchored;
      universal_anchored = facts.universal_anchored;
    };
    few_patterns = (let few = read.few_patterns in omega arith);
  }

-- what can be read has the shape of a sparse table
pub shaped : (l : Layout) → IsWhole l → IsShaped l
shaped l whole = shaped_of l whole.read (closed (length l.rows) l whole.closed)

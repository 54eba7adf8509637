-- A layout that is read and closed has the shape of every dense table.
use Rattle.rx_spec.proofs.Prelude.{common_steps, ◌≡◌, ℕ, ◌+◌, ◌*◌, ◌/◌, ◌%◌, ◌<◌, ◌≤◌, not, ltb, eqb, length}
use Rattle.rx_spec.proofs.Prelude.{slice_index, sym, subst, arith, and_parts, leb-true, max_id}
use Rattle.rx_dense.specs.Layouts.{AreLists, AreRows, AreStarts, IsRowId, IsShaped, Layout, is_row_id, stride}
use Rattle.rx_dense_image.specs.Images.{IsRead, IsWhole}
use Rattle.rx_dense_image.proofs.AccelRows.{row_id_of}
use Rattle.rx_dense_image.proofs.ClosedFacts.{AreClosed, closed}
use Rattle.rx_image_parts.proofs.PartLengths.{few_starts}

two_rows : (n s : ℕ) → n % s ≡ 0 → 2 ≤ n / s → 2 * s ≤ n
two_rows n s whole two = grind (arith, common_steps)

module _ (l : Layout) (read : IsRead l) (facts : AreClosed l) where
  pub word_row : (k : ℕ) → k < length l.words → IsRowId l (slice_index l.words k)
  word_row k lt =
      row_id_of l read.rows (slice_index l.words k)
      (and_parts (is_row_id l (slice_index l.words k)) _ (facts.entries k lt)).0

  rows_shaped : AreRows l
  rows_shaped = record {
    classes = read.rows.classes;
    exponent = read.rows.exponent;
    fits = read.rows.fits;
    whole = read.rows.whole;
    two = two_rows (length l.words) (stride l) read.rows.whole facts.two;
    few = omega arith;
    next_ids = word_row;
    past_alphabet = read.rows.padded.zero;
  }

  starts_shaped : AreStarts l
  starts_shaped = record {
    contexts = read.table.contexts;
    count = read.table.count;
    small =
        subst (λ (n : ℕ). n ≤ 12 + 6 * (max_id + 1)) (sym read.table.count)
        (few_starts l.pattern_starts read.table.patterns);
    start_ids = λ k lt.
        let outer = and_parts _ (not (eqb (slice_index l.starts k) (stride l))) (facts.starts k lt) in
        row_id_of l read.rows (slice_index l.starts k) (and_parts (is_row_id l (slice_index l.starts k)) _ outer.0).0;
  }

  lists_shaped : AreLists l
  lists_shaped = record {
    few_patterns = omega arith;
    pairs = read.lists.pairs;
    few_rows = read.lists.few_rows;
    few = read.lists.few;
    within = λ i lt.
        let outer = and_parts _ _ (facts.lists i (omega arith)) in
        let inner = and_parts _ (not (eqb (slice_index l.slices (2 * i + 1)) 0)) outer.0 in
        leb-true _ _ (and_parts (ltb (slice_index l.slices (2 * i)) (length l.pattern_ids)) _ inner.0).1;
    few_accels = read.marks.accels.few;
  }

  pub shaped_of : IsShaped l
  shaped_of = record { rows = rows_shaped; starts = starts_shaped; lists = lists_shaped }

pub shaped : (l : Layout) → IsWhole l → IsShaped l
shaped l whole = shaped_of l whole.read (closed l whole.closed)

-- A dense table as the refinement sees it: its columns are the units.
use Rattle.rx_spec.proofs.Prelude.{common_steps, ◌≡◌, ◌<◌, ◌≤◌, ◌+◌, ◌*◌, ◌/◌, ◌^◌, ◌∙◌, ℕ, List, length, sym, arith}
use Rattle.rx_spec.proofs.Prelude.{mul-le, pow_pos, IfOk, Result, slice_index, IsTable}
use Rattle.rx_minimize.proofs.Prelude.{AreBlocks, AreByLabel, AreMovesByColumn, AreRows, Layout, alphabet_len, column}
use Rattle.rx_minimize.proofs.Prelude.{column_within, multiple_below, row-below, row_count, stride, table_of}
use Rattle.std.proofs.lemmas.Int.Digits.{length-digits_of-le}
use Rattle.rx_refine.specs.Moves.{Moves, next_row, read_limit, binary_digits, AreAlikeByNumber, AreToldByNumber}
use Rattle.rx_order.proofs.UsedColumns.{column_used}
use Rattle.rx_minimize.proofs.ColumnWords.{alike_by_units, told_by_units}

-- the steps of a refinement fit their counter
pub reads_few : (m : Moves) → m.rows ≤ 2147483647 → m.units ≤ 257 → read_limit m < 2 ^ 64
reads_few m rows units =
    let digits : binary_digits m.rows ≤ 32 = length-digits_of-le 2 32 m.rows (omega arith) (omega arith) in
    let cells : 2 * m.units * m.rows ≤ 514 * 2147483647 =
    mul-le (2 * m.units) m.rows 514 2147483647 (omega arith) rows in
    let all : read_limit m ≤ 514 * 2147483647 * 32 =
    mul-le (2 * m.units * m.rows) (binary_digits m.rows) (514 * 2147483647) 32 cells digits in
    omega arith

-- each entry of a row is a row
pub entries_below : (l : Layout) → AreRows l → (row at : ℕ) → row < row_count l → at < alphabet_len l.classes
    → slice_index l.words (row * stride l + at) / stride l < row_count l
entries_below l rows row at h within =
    let fits = rows.fits in
    let place = multiple_below row (stride l) (length l.words) (pow_pos l.stride2) h in
    row-below l (slice_index l.words (row * stride l + at)) (rows.next_ids (row * stride l + at) (omega arith))

-- the moves that are read from the words of a table
pub record AreMovesOf (l : Layout) (m : Moves) : Type 0 where
  pub rows : m.rows ≡ row_count l
  pub units : m.units ≡ alphabet_len l.classes
  pub nexts : (row at : ℕ) → row < row_count l → at < alphabet_len l.classes
      → next_row m row at ≡ slice_index l.words (row * stride l + at) / stride l

pub by_column : (l : Layout) → AreRows l → (m : Moves) (labels : List ℕ) → AreMovesOf l m
    → AreByLabel (table_of l) labels → AreMovesByColumn (table_of l) m labels (column l)
by_column l rows m labels of labelled = record {
  rows = of.rows;
  below = λ unit h. omega (arith, of.units, column_within l rows.classes unit h);
  used = λ at h. column_used l rows.classes at (omega (arith, of.units));
  nexts = λ row unit h within. sym (of.nexts row (column l unit) h (column_within l rows.classes unit within));
  labelled = labelled;
}

-- the blocks of a refinement
pub record AreRefined (m : Moves) (labels blocks : List ℕ) : Type 0 where
  pub count : length blocks ≡ m.rows
  pub alike : AreAlikeByNumber m labels blocks
  pub told : AreToldByNumber m labels blocks

pub refined : (l : Layout) → AreRows l → IsTable (table_of l) → {m : Moves} {labels blocks : List ℕ} → AreMovesOf l m
    → AreByLabel (table_of l) labels → AreRefined m labels blocks → AreBlocks (table_of l) blocks
refined l rows is {m} {labels} {blocks} of labelled are =
    let by = by_column l rows m labels of labelled in
    record {
      count = are.count ∙ of.rows;
      alike = λ x y lx ly e.
          alike_by_units (table_of l) m labels (column l) is.nexts by x y lx ly
          ((are.alike x y (omega (arith, of.rows)) (omega (arith, of.rows))).0 e);
      told = λ x y lx ly ne.
          told_by_units (table_of l) m labels (column l) is.nexts by x y lx ly
          (are.told x y (omega (arith, of.rows)) (omega (arith, of.rows)) ne);
    }

-- two facts of what is answered are both facts of it
pub both : {T E : Type 0} (r : Result T E) (A B : T → Type 0) → IfOk r A → IfOk r B → IfOk r (λ x. A x × B x)
both r A B a b = grind (arith, common_steps)

-- How many bytes rows have.
use Rattle.rx_spec.proofs.Prelude.{common_steps, ℕ, zero, suc, ◌*◌, ◌≤◌, List, [], ◌∷◌, length, take, arith}
use Rattle.rx_sparse.specs.Rows.{Row, row_len, rows_len}

pub rows_len-take : (rows : List Row) (row : ℕ) → rows_len (take row rows) ≤ rows_len rows
unfolding rows_len
rows_len-take rows zero = omega arith
rows_len-take [] (suc row) = omega arith
rows_len-take (r ∷ rows) (suc row) = omega (arith, rows_len-take rows row)

-- its patterns take four bytes each
pub row_len-patterns : (row : Row) → 4 * length row.patterns ≤ row_len row
row_len-patterns row = grind (arith, common_steps)

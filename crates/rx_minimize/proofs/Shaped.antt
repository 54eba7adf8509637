-- How many rows a table may have.
use Rattle.rx_spec.proofs.Prelude.{◌≤◌, ◌<◌, ◌*◌, arith, ⊎_elim, cases_lt, pow_pos}
use Rattle.rx_minimize.proofs.Prelude.{AreRows, IsRowId-row, Layout, id_few, row_count, stride}

-- each row but the first has an id, which is at least the row's number
pub rows_few : (l : Layout) → AreRows l → row_count l ≤ 2147483647
rows_few l rows =
    ⊎_elim small (λ h. (let g : row_count l ≤ 2147483647 = omega arith in g)) (cases_lt 2147483647 (row_count l))
  where
    small : 2147483647 < row_count l → row_count l ≤ 2147483647
    small h =
        let few = id_few l rows (2147483647 * stride l) (IsRowId-row l 2147483647 h) in
        absurd (omega (arith, pow_pos l.stride2))

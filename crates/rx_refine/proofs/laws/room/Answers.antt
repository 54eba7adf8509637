use Rattle.rx_refine.proofs.Prelude.{arith, binary_digits, common_steps, length-digits_of-le, read_limit, ◌*◌, ◌^◌, ◌≤◌}
use Rattle.rx_refine.proofs.laws.room.Goals as goal

-- 2 ^ 31 rows have 32 digits
pub returns : goal.returns
returns c m a h =
    let digits : binary_digits m.rows ≤ 32 = grind (arith, common_steps, length-digits_of-le) in
    let lists : 2 * m.units * m.rows ≤ 2 ^ 27 * 2 ^ 31 = grind (arith, common_steps) in
    let all : read_limit m ≤ 2 ^ 27 * 2 ^ 31 * 32 = grind (arith, common_steps) in
    omega arith

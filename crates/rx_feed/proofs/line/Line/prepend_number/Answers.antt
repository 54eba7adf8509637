use Rattle.rx_spec.proofs.Prelude.{common_steps, ◌≤◌, ◌<◌, ◌^◌, [], length, ℕ, arith, append_assoc, length-append}
use Rattle.rx_spec.proofs.Prelude.{decimal_digit, decimal}
use Rattle.std.proofs.lemmas.Fmt.{decimal_nonempty, decimal_step, length-decimal-le}
use Rattle.rx_feed.proofs.line.Line.prepend_number.Goals as goal

number_len : (n : ℕ) → n < 2 ^ 64 → length (decimal n) ≤ 20
number_len n small = length-decimal-le 20 n (omega arith) (omega arith) small

pub digits-init : goal.digits-init
digits-init c = grind (arith, common_steps, number_len)

pub prepend_byte-requires : goal.prepend_byte-requires
prepend_byte-requires c = grind (arith, common_steps, decimal_nonempty)

pub digits-preserved : goal.digits-preserved
digits-preserved c = grind (arith, common_steps, append_assoc, decimal_step, length-append)

pub prepend_byte-requires-2 : goal.prepend_byte-requires-2
prepend_byte-requires-2 c = grind (arith, common_steps, decimal_nonempty)

pub returns-clause-bytes : goal.returns-clause-bytes
returns-clause-bytes c = grind (arith, common_steps, decimal_digit)

pub returns-clause-len : goal.returns-clause-len
returns-clause-len c = grind (arith, common_steps, decimal_digit)

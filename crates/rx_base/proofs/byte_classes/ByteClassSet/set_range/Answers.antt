use Rattle.rx_spec.proofs.Prelude.{common_steps, ℕ, ◌≡◌, ◌+◌, ◌-◌, ◌<◌, ◌==◌, arith, nat_tests}
use Rattle.rx_base.proofs.ByteSets.{contains-add}
use Rattle.rx_base.proofs.Classes.{ends-with_range}
use Rattle.rx_base.proofs.byte_classes.ByteClassSet.set_range.Goals as goal

the_lower_edge : (first b : ℕ) → 0 < first → (b == first - 1) ≡ (b + 1 == first)
the_lower_edge first b h = grind (arith, nat_tests)

pub returns : goal.returns
returns c b below = grind (arith, common_steps, contains-add, the_lower_edge, ends-with_range)

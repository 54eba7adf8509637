use Rattle.rx_spec.proofs.Prelude.{common_steps, arith}
use Rattle.rx_script.proofs.Ranges.{range_more, range_begun}
use Rattle.rx_script.proofs.tokens.add_range.Goals as goal

pub loop-byte-init : goal.loop-byte-init
loop-byte-init c = range_begun c.args.set.now c.args.first

pub loop-byte-preserved : goal.loop-byte-preserved
loop-byte-preserved c = grind (arith, common_steps, range_more)

pub returns : goal.returns
returns c = grind (arith, common_steps, range_more)

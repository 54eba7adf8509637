use Rattle.rx_refine.proofs.Prelude.{arith, common_steps, rules}
use Rattle.rx_refine.proofs.Sources.{source_below}
use Rattle.rx_refine.proofs.NextKeys.{AreKeyed-all}
use Rattle.rx_refine.proofs.keys.set_keys.Goals as goal

pub bounds-keys-source : goal.bounds-keys-source
bounds-keys-source g c = search (rules, source_below)

pub offset_bounds-keys-source : goal.offset_bounds-keys-source
offset_bounds-keys-source g c = search (rules, source_below)

pub loop-i-init : goal.loop-i-init
loop-i-init g c = grind (arith, common_steps)

pub loop-i-preserved : goal.loop-i-preserved
loop-i-preserved g c = grind (arith, common_steps)

pub returns-clause-keys : goal.returns-clause-keys
returns-clause-keys g c x l = AreKeyed-all c.loop-i.invariant.keys (omega arith) x (omega arith)

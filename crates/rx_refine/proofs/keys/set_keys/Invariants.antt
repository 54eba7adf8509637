use Rattle.rx_refine.proofs.Prelude.{sources, ◌+◌, ◌≡◌}
use Rattle.rx_refine.proofs.NextKeys.{AreKeyed}
use Rattle.rx_refine.proofs.keys.set_keys.Given as goal

abbrev pub invariant-loop-i : goal.invariant-loop-i
invariant-loop-i g l = record {
  keys : AreKeyed (sources l.incoming l.row l.unit) l.key l.fn.keys l.i l.keys;
  steps : l.steps ≡ l.fn.steps + (1 + l.i);
}

use Rattle.rx_refine.proofs.Prelude.{sources, take, ◌++◌, ◌+◌, ◌≡◌}
use Rattle.rx_refine.proofs.hopcroft.add_sources.Given as goal

abbrev pub invariant-loop-i : goal.invariant-loop-i
invariant-loop-i g l = record {
  hits : l.hits.items ≡ l.fn.hits.items ++ take l.i (sources l.incoming l.row l.unit);
  steps : l.steps ≡ l.fn.steps + (1 + l.i);
}

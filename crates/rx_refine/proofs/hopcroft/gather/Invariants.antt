use Rattle.rx_refine.proofs.Prelude.{flat_map, length, sources, sum_by, take, ◌+◌, ◌≡◌, ◌≤◌}
use Rattle.rx_refine.proofs.hopcroft.gather.Given as goal

abbrev pub invariant-loop-member : goal.invariant-loop-member
invariant-loop-member g l = record {
  hits : l.hits.items ≡ flat_map (λ row. sources l.incoming row l.unit) (take l.member-index l.members);
  steps : l.steps
      ≤ l.fn.steps + sum_by (λ row. 1 + length (sources l.incoming row l.unit)) (take l.member-index l.members);
  rising : l.fn.steps ≤ l.steps;
}

use Rattle.rx_spec.proofs.Prelude.{vec_capacity, length}
use Rattle.rx_stepper.proofs.GroupLoop.{Between, Finding}
use Rattle.rx_stepper.proofs.steps.ColumnSteps.find.Given as goal

abbrev pub invariant-loop-group : goal.invariant-loop-group
invariant-loop-group l =
    let f : Finding = record {
      closures = l.fn.closures;
      columns = l.columns;
      kind = l.kind;
      rows = l.rows;
      last = l.last;
      count = length l.fn.self.targets.items;
      room = vec_capacity l.fn.reached;
    } in
    Between f l.group l.self l.closures (vec_capacity l.reached)

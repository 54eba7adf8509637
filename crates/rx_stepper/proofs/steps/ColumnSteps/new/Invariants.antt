use Rattle.rx_spec.proofs.Prelude.{◌≡◌, length, map}
use Rattle.rx_stepper.proofs.Prelude.{AreEmpty}
use Rattle.rx_stepper.proofs.steps.ColumnSteps.new.Given as goal

abbrev pub invariant-loop-group : goal.invariant-loop-group
invariant-loop-group l = record {
  len : length l.matches.items ≡ l.group;
  empty : AreEmpty (map (λ v. v.items) l.matches.items);
}

abbrev pub invariant-loop-column : goal.invariant-loop-column
invariant-loop-column l = record {
  len : length l.targets.items ≡ l.column;
  empty : AreEmpty (map (λ v. v.items) l.targets.items);
}

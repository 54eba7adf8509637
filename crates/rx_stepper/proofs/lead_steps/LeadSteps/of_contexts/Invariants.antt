use Rattle.rx_spec.proofs.Prelude.{◌≡◌, length, false, All}
use Rattle.rx_stepper.proofs.lead_steps.LeadSteps.of_contexts.Given as goal

abbrev pub invariant-loop-context : goal.invariant-loop-context
invariant-loop-context l = record {
  len : length l.leads.items ≡ l.context;
  columns : All (λ s. length s.steps.targets.items ≡ l.columns) l.leads.items;
  none : All (λ s. s.are_found ≡ false) l.leads.items;
}

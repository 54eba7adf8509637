use Rattle.rx_stepper.proofs.lead_steps.LeadSteps.find.Goals as goal

pub returns-then-self-clause-steps : goal.returns-then-self-clause-steps
returns-then-self-clause-steps c = λ units reads groups old found. old found

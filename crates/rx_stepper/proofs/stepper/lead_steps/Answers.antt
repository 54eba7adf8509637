use Rattle.rx_spec.proofs.Prelude.{common_steps, ap, sym, ◌∙◌, subst, arith, IfSome, length, ◌<◌}
use Rattle.rx_stepper.proofs.Prelude.{goes_on}
use Rattle.rx_stepper.proofs.EmptyLists.{list_there}
use Rattle.rx_stepper.proofs.LeadPlaces.{at_or}
use Rattle.rx_stepper.proofs.stepper.lead_steps.Goals as goal

pub returns-then-not-goes_on : goal.returns-then-not-goes_on
returns-then-not-goes_on c = grind (arith, common_steps)

pub returns : goal.returns
returns c =
    let own = c.args.current.now.steps in
    let there = list_there (λ v. v.items) own.matches.items c.args.group c.index.result.now
    (omega arith) c.index.ensures in
    let within =
    subst (λ o. IfSome o (λ context. context < length c.args.leads.now)) c.in_ok-context.was c.requires.context in
    record {
      context = c.in_ok-context.context;
      lead = c.index-leads-context.result;
      led_in = c.in_ok-context.was;
      there = at_or c.args.leads.now c.in_ok-context.context within c.index-leads-context.is;
      steps_are = ap (λ l. l.steps) (sym c.index-leads-context.is);
      goes_on =
          ap (goes_on c.args.kind) (there ∙ sym c.deref.ensures.value) ∙ sym c.goes_on.ensures ∙ c.if-not-goes_on.false;
    }

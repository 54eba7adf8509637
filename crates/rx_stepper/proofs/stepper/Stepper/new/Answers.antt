use Rattle.rx_spec.proofs.Prelude.{common_steps, rules, ◌≡◌, length, refl, sym, ◌∙◌, subst, arith, All}
use Rattle.rx_stepper.proofs.Prelude.{Fits, IsLeadIn, NFA, lead_of, meaning, stepping_of, table_of}
use Rattle.rx_stepper.proofs.KeyLaws.{ids_spelled, one_key_each, spells}
use Rattle.rx_stepper.proofs.StepperParts.{dead_current, no_leads}
use Rattle.rx_stepper.proofs.UnitCounts.{units_counted}
use Rattle.rx_stepper.proofs.stepper.Stepper.new.Goals as goal

pub invariant_of-result : goal.invariant_of-result
invariant_of-result c =
    let nfa = c.args.nfa.now in
    let classes = c.args.classes.now in
    let columns = c.in_ok-columns.columns in
    let leads = c.in_ok-leads.leads.items in
    let current = c.in_ok-current.ensures in
    let counted = units_counted classes c.alphabet_len-width.ensures.classes in
    let width = c.alphabet_len-width.ensures.value ∙ sym counted in
    let is = subst (λ (n : NFA). IsLeadIn (meaning n) c.in_ok-lead_in.lead_in) c.in_ok-closures.ensures
    c.in_ok-lead_in.ensures.is in
    let table = λ (n : NFA). table_of (meaning n) c.args.kind classes columns in
    let fits : Fits (meaning nfa) classes columns = record {
      counted = counted;
      count = c.in_ok-columns.ensures.count;
      reads = c.in_ok-columns.ensures.reads;
      groups = c.in_ok-columns.ensures.groups;
    } in
    let fits_lead = no_leads (table nfa) c.in_ok-lead_in.lead_in leads is c.in_ok-leads.ensures.len
    (subst (λ n. All (λ l. length l.steps.targets.items ≡ n) leads) width c.in_ok-leads.ensures.columns)
    c.in_ok-leads.ensures.none in
    let fits_current = dead_current (table nfa) leads c.in_ok-current.current (current.columns ∙ width) current.key
    current.targets current.matches current.led_in in
    grind (arith, common_steps)

pub returns-clause-spells : goal.returns-clause-spells
unfolding stepping_of
returns-clause-spells c =
    let nfa = meaning c.new-3.new.closures.nfa.now in
    record {
      label = λ key is_key. refl;
      are_ids = λ key is_key. ids_spelled (spells nfa.rows (lead_of nfa) key is_key);
      few = λ key is_key. (spells nfa.rows (lead_of nfa) key is_key).closed.few;
    }

pub returns-clause-one_key : goal.returns-clause-one_key
unfolding stepping_of
returns-clause-one_key c = search (rules, one_key_each)

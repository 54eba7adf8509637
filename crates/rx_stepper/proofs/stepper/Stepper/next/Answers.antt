use Rattle.rx_spec.proofs.Prelude.{◌<◌, ◌^◌, ◌++◌, ℕ, List, length, ap, sym, ◌∙◌, subst, arith, option_copied, IfSome}
use Rattle.rx_spec.proofs.Prelude.{is_dead_state}
use Rattle.rx_stepper.proofs.Prelude.{Fits, FitsCurrent, FitsLead, IsLeadOf, LeadSteps, NFA, Table, bits_of, facts_with}
use Rattle.rx_stepper.proofs.Prelude.{made, meaning, stepping_of, table_of, units_of}
use Rattle.rx_stepper.proofs.ColumnSteps.{IsGathered, gathered_few, gathered_made, lead_column, led_within}
use Rattle.rx_stepper.proofs.Results.{if_ok-map, match_bool-map}
use Rattle.rx_stepper.proofs.stepper.Stepper.next.Goals.{After-targets, Start}
use Rattle.rx_stepper.proofs.stepper.Stepper.next.Goals as goal

within : (c : Start) → c.args.column < length (units_of c.args.self.now.classes)
unfolding stepping_of
within c = omega arith

abbrev table : (c : Start) → Table
table c =
    let self = c.args.self.now in
    table_of (meaning self.closures.nfa.now) self.kind self.classes self.columns

-- what was gathered for the column
gathered : (c : After-targets) → IsGathered (table (goal.at.After-targets c).Start) c.args.self.now.leads.items
    c.args.self.now.current c.lead_steps-lead.result c.args.column c.of-group.result
    (c.targets.result.first.now ++ c.targets.result.second.now) c.write_label.new.label.items
gathered c =
    let self = c.args.self.now in
    let lead = c.lead_steps-lead.result in
    let Is = λ (l : List LeadSteps). IsLeadOf self.current l self.kind c.of-group.result (option_copied lead) in
    record {
      within = within (goal.at.After-targets c).Start;
      group_is = c.of-group.ensures.value;
      lead_is = subst Is c.deref.ensures.value c.lead_steps-lead.ensures;
      from_is = c.targets.ensures;
      label_is = c.in_ok-write_label.ensures;
    }

pub lead_steps-lead-requires-clause-context : goal.lead_steps-lead-requires-clause-context
lead_steps-lead-requires-clause-context c =
    let self = c.args.self.now in
    subst (λ (l : List LeadSteps). IfSome self.current.led_in (λ context. context < length l))
    (sym c.deref.ensures.value)
    (led_within self.fits.groups self.fits_lead self.fits_current)

pub targets-requires-clause-lead_column : goal.targets-requires-clause-lead_column
targets-requires-clause-lead_column c =
    let self = c.args.self.now in
    let lead = c.lead_steps-lead.result in
    let Is = λ (l : List LeadSteps). IsLeadOf self.current l self.kind c.of-group.result (option_copied lead) in
    lead_column self.fits.groups self.fits_lead self.fits_current c.args.column c.of-group.result
    (within (goal.at.targets-requires-clause-lead_column c).Start) lead
    (subst Is c.deref.ensures.value c.lead_steps-lead.ensures)

pub write_key-requires-clause-asked : goal.write_key-requires-clause-asked
write_key-requires-clause-asked c =
    let self = c.args.self.now in
    let number = self.fits.groups.each c.args.column (within (goal.at.write_key-requires-clause-asked c).Start) in
    let group = c.of-group.ensures.value in
    group ∙ number.bits ∙ ap bits_of (sym number.facts) ∙ ap (λ g. bits_of (facts_with g)) (sym group)

pub write_key-requires-clause-label : goal.write_key-requires-clause-label
write_key-requires-clause-label c =
    let self = c.args.self.now in
    let is = gathered (goal.at.write_key-requires-clause-label c).After-targets in
    subst (λ (label : List ℕ). length label < 2 ^ 32) (sym c.deref-2.ensures.value)
    (gathered_few is self.fits.groups self.fits_lead self.fits_current)

pub invariant_of-self-2 : goal.invariant_of-self-2
invariant_of-self-2 c =
    let self = c.args.self.now in
    let e = sym c.write_key.ensures.nfa in
    let table = λ (n : NFA). table_of (meaning n) self.kind self.classes self.columns in
    record {
      fits = subst (λ (n : NFA). Fits (meaning n) self.classes self.columns) e self.fits;
      fits_lead = subst (λ (n : NFA). FitsLead (table n) self.lead_in self.leads.items) e self.fits_lead;
      fits_current = subst (λ (n : NFA). FitsCurrent (table n) self.leads.items self.current) e self.fits_current;
      room = omega (arith, ap (λ (n : NFA). length (meaning n).rows) e);
    }

pub returns-clause-key : goal.returns-clause-key
unfolding stepping_of
returns-clause-key c =
    let self = c.args.self.now in
    let is = gathered (goal.at.returns-clause-key c).After-targets in
    let facts = facts_with c.of-group.result in
    let from = c.targets.result.first.now ++ c.targets.result.second.now in
    let same = ap (made (meaning self.closures.nfa.now) from facts) c.deref-2.ensures.value
    ∙ gathered_made is self.fits.groups self.fits_lead self.fits_current in
    if_ok-map c.write_key.result
    (λ goes key. match_bool-map goes
    (λ k. record {
      is_key = k.is_key;
      stands_for = k.stands_for ∙ same;
      alive = ap is_dead_state (sym same) ∙ k.alive;
    })
    (λ d. ap is_dead_state (sym same) ∙ d) key)
    c.write_key.ensures.key

use Rattle.rx_spec.proofs.Prelude.{◌≡◌, ◌<◌, List, ℕ, true, length, map, set, ap, sym, ◌∙◌, subst, arith, Facts}
use Rattle.rx_stepper.proofs.Prelude.{AreSteps, Fits, FitsCurrent, FitsLead, LeadSteps, NFA, are_closed, bits_of}
use Rattle.rx_stepper.proofs.Prelude.{meaning, rows_in, stepping_of, table_of, units_of}
use Rattle.rx_stepper.proofs.GroupLoop.{stand}
use Rattle.rx_stepper.proofs.LeadClosing.{lead_closed}
use Rattle.rx_stepper.proofs.LeadPlaces.{at_or}
use Rattle.rx_stepper.proofs.Results.{on_ok-map}
use Rattle.rx_stepper.proofs.StepperParts.{Finds, current_set, found_there, leads_set}
use Rattle.rx_stepper.proofs.stepper.Stepper.find_lead.Goals as goal

pub find-requires-clause-closed : goal.find-requires-clause-closed
find-requires-clause-closed c =
    let self = c.args.self.now in
    let nfa = meaning self.closures.nfa.now in
    ap (are_closed nfa.rows) c.deref.ensures.value ∙ lead_closed nfa self.fits_lead.is.rows self.fits_lead.is.ids

pub find-requires-clause-reading : goal.find-requires-clause-reading
find-requires-clause-reading c =
    let self = c.args.self.now in
    let i = c.to_bits.result in
    let within : i < length self.leads.items = omega arith in
    let there = at_or self.leads.items i within c.index_mut.ensures.value in
    self.fits.count ∙ sym (self.fits_lead.columns i c.index_mut.result.now there)

pub find-requires-clause-groups : goal.find-requires-clause-groups
find-requires-clause-groups c =
    let self = c.args.self.now in
    let i = c.to_bits.result in
    let within : i < length self.leads.items = omega arith in
    let there = at_or self.leads.items i within c.index_mut.ensures.value in
    self.fits.groups.len ∙ sym (self.fits_lead.columns i c.index_mut.result.now there)

pub invariant_of-self-2 : goal.invariant_of-self-2
invariant_of-self-2 c =
    let self = c.args.self.now in
    let nfa = self.closures.nfa.now in
    let i = c.to_bits.result in
    let old = c.index_mut.result.now in
    let new = c.find.new.self in
    let within : i < length self.leads.items = omega arith in
    let there = at_or self.leads.items i within c.index_mut.ensures.value in
    let table = λ (n : NFA). table_of (meaning n) self.kind self.classes self.columns in
    let units = units_of self.classes in
    let groups = self.columns.groups.of.items in
    let Is = λ (rows : List ℕ) (last : Facts) (v : LeadSteps). AreSteps
    (stand nfa self.kind (rows_in rows last)) units groups
    (map (λ w. w.items) v.steps.targets.items) (map (λ w. w.items) v.steps.matches.items) in
    let Finding = λ (rows : List ℕ) (last : Facts). (old.are_found ≡ true → Is rows last old) → new.are_found ≡ true
    → Is rows last new in
    let steps =
    subst (Finding self.lead_in.rows.items) (sym c.to_bits.ensures.back)
    (subst (λ r. Finding r c.context_of-last.result) c.deref.ensures.value
    (c.find.ensures.steps units self.fits.reads self.fits.groups)) in
    let finds : Finds (table nfa) self.lead_in i old new = record {
      columns = c.find.ensures.columns;
      stays = c.find.ensures.stays;
      steps = steps;
    } in
    let e = sym c.find.ensures.nfa in
    let lead =
    subst (λ (n : NFA). FitsLead (table n) self.lead_in (set self.leads.items i new)) e
    (leads_set finds there self.fits_lead) in
    record {
      fits = subst (λ (n : NFA). Fits (meaning n) self.classes self.columns) e self.fits;
      fits_lead = record {
        is = record { start = lead.is.start; rows = lead.is.rows; asks = lead.is.asks; ids = lead.is.ids };
        len = lead.len;
        columns = lead.columns;
        steps = lead.steps;
      };
      fits_current =
          subst (λ (n : NFA). FitsCurrent (table n) (set self.leads.items i new) self.current) e
          (current_set finds there self.fits_current);
      room = omega (arith, ap (λ (n : NFA). length (meaning n).rows) e);
    }

pub returns-clause-found : goal.returns-clause-found
unfolding stepping_of
returns-clause-found c =
    let self = c.args.self.now in
    let i = c.to_bits.result in
    let within : i < length self.leads.items = omega arith in
    let same = sym (c.to_bits.ensures.value ∙ ap bits_of c.context_of-last.ensures) in
    on_ok-map c.find.result (λ found led l e. found_there self.leads.items i c.find.new.self within found same l e)
    c.find.ensures.found

use Rattle.rx_spec.proofs.Prelude.{common_steps, ◌≡◌, true, ap, sym, ◌∙◌, subst, arith, Nfa}
use Rattle.rx_stepper.proofs.Prelude.{NFA, are_closed, lead_of, meaning, own_of, stepping_of, table_of, units_of}
use Rattle.rx_stepper.proofs.KeyLaws.{context_small, key_len, label_number, own_closed, rows_closed, spells}
use Rattle.rx_stepper.proofs.StepperParts.{begun_current, dead_current}
use Rattle.rx_stepper.proofs.stepper.Stepper.begin.Goals as goal

pub find_lead-requires : goal.find_lead-requires
unfolding stepping_of
find_lead-requires c =
    let nfa = meaning c.args.self.now.closures.nfa.now in
    omega (arith, context_small (spells nfa.rows (lead_of nfa) c.args.key.now c.requires))

pub begin-requires-clause-context : goal.begin-requires-clause-context
unfolding stepping_of
begin-requires-clause-context c =
    let nfa = meaning c.args.self.now.closures.nfa.now in
    omega (arith, context_small (spells nfa.rows (lead_of nfa) c.args.key.now c.requires))

pub begin-requires-clause-long : goal.begin-requires-clause-long
unfolding stepping_of
begin-requires-clause-long c =
    let nfa = meaning c.args.self.now.closures.nfa.now in
    let key = spells nfa.rows (lead_of nfa) c.args.key.now c.requires in
    omega (arith, key_len key, label_number key)

pub begin-requires-clause-closed : goal.begin-requires-clause-closed
unfolding stepping_of
begin-requires-clause-closed c =
    let nfa = meaning c.args.self.now.closures.nfa.now in
    let own = own_of c.args.key.now in
    let same = ap (λ s. s.nfa) c.find_lead.ensures.kept in
    subst (λ (n : Nfa). are_closed n.rows own ≡ true) (sym same)
    (rows_closed nfa.rows own (own_closed (spells nfa.rows (lead_of nfa) c.args.key.now c.requires)))

pub invariant_of-self : goal.invariant_of-self
invariant_of-self c =
    let self = c.find_lead.new.self in
    let begun = c.begin.ensures in
    let new = c.begin.new.self in
    let e = sym begun.nfa in
    let table = λ (n : NFA). table_of (meaning n) self.kind self.classes self.columns in
    let current = begun_current (table self.closures.nfa.now) self.leads.items new
    (begun.columns ∙ self.fits_current.columns) c.in-Ok.ensures.key
    (c.in-Ok.ensures.steps (units_of self.classes) self.fits.reads self.fits.groups) c.in-Ok.ensures.led_in
    c.in_ok-find_lead.ensures.found in
    grind (arith, common_steps)

pub invariant_of-self-in-Err : goal.invariant_of-self-in-Err
invariant_of-self-in-Err c =
    let self = c.find_lead.new.self in
    let begun = c.begin.ensures in
    let new = c.forget.new.self in
    let forgot = c.forget.ensures in
    let e = sym begun.nfa in
    let table = λ (n : NFA). table_of (meaning n) self.kind self.classes self.columns in
    let current = dead_current (table self.closures.nfa.now) self.leads.items new
    (forgot.columns ∙ begun.columns ∙ self.fits_current.columns) forgot.key forgot.targets forgot.matches
    forgot.led_in in
    grind (arith, common_steps)

use Rattle.rx_spec.proofs.Prelude.{common_steps, ◌≡◌, ◌<◌, ◌++◌, ◌⊎◌, List, ℕ, [], false, None, Some, length, refl, ap}
use Rattle.rx_spec.proofs.Prelude.{ap₂, sym, ◌∙◌, subst, arith, IfSome, slice_index}
use Rattle.rx_stepper.proofs.Prelude.{Follows, LeadSteps, goes_on, matches_in, stepping_of, targets_in, units_of}
use Rattle.rx_stepper.proofs.ColumnSteps.{columns_alike, led_within}
use Rattle.rx_stepper.proofs.EmptyLists.{list_there}
use Rattle.rx_stepper.proofs.stepper.Stepper.are_alike.Goals.{Else-not-are_equal, In-Some, Start}
use Rattle.rx_stepper.proofs.stepper.Stepper.are_alike.Goals as goal

-- both columns have a unit
column_in : (c : Start) → c.args.column < length (units_of c.args.self.now.classes)
unfolding stepping_of
column_in c = omega arith

other_in : (c : Start) → c.args.other < length (units_of c.args.self.now.classes)
unfolding stepping_of
other_in c = omega arith

-- they are of one group, and its own rows lead to the same rows
same_group : (c : Else-not-are_equal) → slice_index c.args.self.now.columns.groups.of.items c.args.column
    ≡ slice_index c.args.self.now.columns.groups.of.items c.args.other
same_group c = sym c.of-group.ensures.value ∙ c.if-group-of.false ∙ c.of.ensures.value

same_own : (c : Else-not-are_equal) → targets_in c.args.self.now.current.steps c.args.column
    ≡ targets_in c.args.self.now.current.steps c.args.other
same_own c =
    let self = c.args.self.now in
    let steps = self.current.steps in
    let start = (goal.at.Else-not-are_equal c).Start in
    let here = list_there (λ v. v.items) steps.targets.items c.args.column c.index.result.now
    (omega (arith, column_in start)) c.index.ensures in
    let there = list_there (λ v. v.items) steps.targets.items c.args.other c.index-2.result.now
    (omega (arith, other_in start, self.fits_current.columns)) c.index-2.ensures in
    here ∙ sym c.deref.ensures.value ∙ c.if-not-are_equal.ensures refl ∙ c.deref-2.ensures.value ∙ sym there

-- the lead-in's rows follow
follows : (c : In-Some)
    → Follows c.args.self.now.current c.args.self.now.leads.items c.args.self.now.kind c.of-group.result
    c.in-Some.lead.now
follows c = grind (arith, common_steps)

lead_columns : (c : In-Some) → length c.in-Some.lead.now.targets.items ≡ length (units_of c.args.self.now.classes)
lead_columns c =
    let f = follows c in
    ap (λ s. length s.targets.items) f.steps_are ∙ c.args.self.now.fits_lead.columns f.context f.lead f.there

pub lead_steps-requires-clause-context : goal.lead_steps-requires-clause-context
lead_steps-requires-clause-context c =
    let self = c.args.self.now in
    subst (λ (l : List LeadSteps). IfSome self.current.led_in (λ context. context < length l))
    (sym c.deref-3.ensures.value) (led_within self.fits.groups self.fits_lead self.fits_current)

pub index-requires-in-Some : goal.index-requires-in-Some
index-requires-in-Some c = omega (arith, column_in (goal.at.index-requires-in-Some c).Start, lead_columns c)

pub index-requires-in-Some-2 : goal.index-requires-in-Some-2
index-requires-in-Some-2 c = omega (
  arith,
  other_in (goal.at.index-requires-in-Some-2 c).Start,
  lead_columns (goal.at.index-requires-in-Some-2 c).In-Some,
)

pub returns-in-Some : goal.returns-in-Some
unfolding stepping_of
returns-in-Some c = λ equal.
    let self = c.args.self.now in
    let before = goal.at.returns-in-Some c in
    let lead = c.in-Some.lead in
    let len = lead_columns before.In-Some in
    let mine = list_there (λ v. v.items) lead.now.targets.items c.args.column c.index-in-Some.result.now
    (omega arith) c.index-in-Some.ensures in
    let its = list_there (λ v. v.items) lead.now.targets.items c.args.other c.index-in-Some-2.result.now
    (omega arith) c.index-in-Some-2.ensures in
    let theirs =
    mine ∙ sym c.deref-in-Some.ensures.value ∙ c.are_equal-in-Some.ensures equal ∙ c.deref-in-Some-2.ensures.value
    ∙ sym its in
    let is = subst (λ g. Follows self.current self.leads.items self.kind g lead.now) c.of-group.ensures.value
    (follows before.In-Some) in
    columns_alike self.fits.groups self.fits_lead self.fits_current c.args.column c.args.other (column_in before.Start)
    (other_in before.Start) (Some lead) (same_group before.Else-not-are_equal) is
    (ap₂ (λ (a b : List ℕ). a ++ b) (same_own before.Else-not-are_equal) theirs)

pub returns-in-None : goal.returns-in-None
unfolding stepping_of
returns-in-None c = λ equal.
    let self = c.args.self.now in
    let before = goal.at.returns-in-None c in
    let Is = λ (g : ℕ). (self.current.led_in ≡ None)
    ⊎ (goes_on self.kind (matches_in self.current.steps g) ≡ false) in
    columns_alike self.fits.groups self.fits_lead self.fits_current c.args.column c.args.other (column_in before.Start)
    (other_in before.Start) None (same_group before.Else-not-are_equal)
    (subst Is c.of-group.ensures.value c.in-None.ensures)
    (ap (λ (l : List ℕ). l ++ []) (same_own before.Else-not-are_equal))

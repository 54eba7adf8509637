use Rattle.rx_spec.proofs.Prelude.{arith, ◌≡◌, ◌-◌, List, ℕ, [], true, length, sym, ◌∙◌, subst, common_steps, Some}
use Rattle.rx_spec.proofs.Prelude.{slice_get}
use Rattle.rx_stepper.proofs.Prelude.{is_met}
use Rattle.rx_stepper.proofs.LeadPlaces.{at_in}
use Rattle.rx_stepper.proofs.LeadSplits.{every_in}
use Rattle.rx_stepper.proofs.Members.{was}
use Rattle.rx_stepper.proofs.WrittenRows.{written_missing}
use Rattle.rx_stepper.proofs.lead_in.LeadIn.split.Goals as goal

pub returns-in-None-clause-rows : goal.returns-in-None-clause-rows
returns-in-None-clause-rows c = grind (arith, common_steps)

pub returns-then-not-is_met-clause-rows : goal.returns-then-not-is_met-clause-rows
returns-then-not-is_met-clause-rows c =
    let lead = c.args.self.now.rows.items in
    let own = c.args.own.now.items in
    let q = c.in-Some.last.now in
    let there = subst (λ (l : List ℕ). Some q ≡ slice_get l (length l - 1)) c.deref.ensures.value
    c.in-Some.ensures.value in
    let member = at_in lead (length lead - 1) (sym there) in
    let stamps = c.args.closures.now.stamps in
    let met = every_in (λ x. is_met stamps.stamps.items stamps.now x ≡ was own x) lead c.requires member in
    written_missing lead own q member (sym met ∙ sym c.is_met.ensures ∙ c.if-not-is_met.true)

pub returns-in-Some-split_len-clause-rows : goal.returns-in-Some-split_len-clause-rows
returns-in-Some-split_len-clause-rows c = grind (arith, common_steps)

pub returns-in-None-split_len-clause-rows : goal.returns-in-None-split_len-clause-rows
returns-in-None-split_len-clause-rows c = grind (arith, common_steps)

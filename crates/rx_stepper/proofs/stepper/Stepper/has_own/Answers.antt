use Rattle.rx_spec.proofs.Prelude.{◌≡◌, ◌<◌, [], length, sym, ap, ◌∙◌, arith, not-false, slice_index}
use Rattle.rx_stepper.proofs.Prelude.{matches_in, stepping_of, targets_in, units_of}
use Rattle.rx_stepper.proofs.EmptyLists.{empty_there}
use Rattle.rx_stepper.proofs.LoneSteps.{alone}
use Rattle.rx_stepper.proofs.stepper.Stepper.has_own.Goals as goal

pub returns : goal.returns
unfolding stepping_of
returns c = λ is_empty.
    let self = c.args.self.now in
    let own = self.current.steps in
    let group = c.of-group.ensures in
    let within : c.args.column < length (units_of self.classes) = omega arith in
    let list = c.index.result.now in
    let targets : targets_in own c.args.column ≡ [] =
    empty_there (λ v. v.items) own.targets.items c.args.column list (omega arith) c.index.ensures list.ok.0
    c.is_empty.ensures c.if-not-is_empty.false in
    let last = c.index-2.result.now in
    let matches : matches_in own (slice_index self.columns.groups.of.items c.args.column) ≡ [] =
    ap (matches_in own) (sym group.value)
    ∙ empty_there (λ v. v.items) own.matches.items c.of-group.result last (omega arith) c.index-2.ensures last.ok.0
    c.is_empty-2.ensures (not-false c.is_empty-2.result is_empty) in
    alone self.fits.groups self.fits_lead self.fits_current within targets matches

-- none of the rows matches before any unit
pub returns-then-not-own : goal.returns-then-not-own
unfolding stepping_of
returns-then-not-own c = λ e.
    let self = c.args.self.now in
    let own = self.current.steps in
    let within : c.args.column < length (units_of self.classes) = omega arith in
    let list = c.index.result.now in
    let targets : targets_in own c.args.column ≡ [] =
    empty_there (λ v. v.items) own.targets.items c.args.column list (omega arith) c.index.ensures list.ok.0
    c.is_empty.ensures c.if-not-is_empty.false in
    alone self.fits.groups self.fits_lead self.fits_current within targets
    (own.no_matches c.if-not-own.true (slice_index self.columns.groups.of.items c.args.column))

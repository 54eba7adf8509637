use Rattle.rx_spec.proofs.Prelude.{◌<◌, get_or, length, ap, sym, ◌∙◌, subst, arith}
use Rattle.rx_stepper.proofs.Prelude.{AreMetTo, is_met}
use Rattle.rx_stepper.proofs.LeadPlaces.{met_all, met_more, met_to}
use Rattle.rx_stepper.proofs.lead_in.LeadIn.met_len.Goals as goal

pub loop-place-preserved : goal.loop-place-preserved
loop-place-preserved c =
    let rows = c.args.self.now.rows.items in
    let stamps = c.args.closures.now.stamps in
    let there : c.loop-place.place < length rows = omega
    (arith, c.loop-place-test.true, ap length c.deref-row-items.ensures.value) in
    let is = c.row-item.is ∙ ap (λ l. get_or l c.loop-place.place c.row-item.result) c.deref-row-items.ensures.value in
    met_more (is_met stamps.stamps.items stamps.now) rows c.loop-place.invariant there is
    (sym c.is_met.ensures ∙ c.if-not-is_met.false)

pub returns-then-not-is_met : goal.returns-then-not-is_met
returns-then-not-is_met c =
    let rows = c.args.self.now.rows.items in
    let stamps = c.args.closures.now.stamps in
    let there : c.loop-place.place < length rows = omega
    (arith, c.loop-place-test.true, ap length c.deref-row-items.ensures.value) in
    let is = c.row-item.is ∙ ap (λ l. get_or l c.loop-place.place c.row-item.result) c.deref-row-items.ensures.value in
    met_to (is_met stamps.stamps.items stamps.now) rows c.loop-place.invariant there is
    (sym c.is_met.ensures ∙ c.if-not-is_met.true)

pub returns : goal.returns
returns c =
    let rows = c.args.self.now.rows in
    let stamps = c.args.closures.now.stamps in
    let met = is_met stamps.stamps.items stamps.now in
    subst (AreMetTo met rows.items) (omega arith)
    (met_all met rows.items c.loop-place.invariant
    (omega arith))

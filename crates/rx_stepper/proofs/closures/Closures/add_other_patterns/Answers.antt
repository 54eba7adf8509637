use Rattle.rx_spec.proofs.Prelude.{arith, ◌∷◌, ◌+◌, drop, ap, sym, ◌∙◌, common_steps, drop_more}
use Rattle.rx_stepper.proofs.Prelude.{meaning}
use Rattle.rx_stepper.proofs.Without.{without_new, without_nil, without_old}
use Rattle.rx_stepper.proofs.closures.Closures.add_other_patterns.Goals as goal

pub loop-id-preserved : goal.loop-id-preserved
loop-id-preserved c =
    let rows = (meaning c.args.self.now.nfa.now).rows in
    let q = c.id-item.result in
    let label = c.loop-id.label.items in
    let rest = drop (c.loop-id.id-index + 1) c.args.rows.now in
    let here =
    drop_more c.args.rows.now c.loop-id.id-index q c.loop-id-test.true ∙ ap (λ v. v ∷ rest) (sym c.id-item.is) in
    grind (arith, common_steps, without_new, without_old)

pub returns : goal.returns
returns c = grind (arith, common_steps, without_nil)

use Rattle.rx_spec.proofs.Prelude.{common_steps, ◌<◌, length, map, get_or, refl, ap, sym, ◌∙◌, arith, rules}
use Rattle.rx_stepper.proofs.Prelude.{list_at, takes}
use Rattle.rx_stepper.proofs.TargetLists.{column_taken}
use Rattle.rx_stepper.proofs.targets.push_each.Goals as goal
use Rattle.rx_stepper.proofs.targets.push_each.Goals.{then-takes+in_ok-push, else-takes}

pub loop-column-preserved : goal.loop-column-preserved
loop-column-preserved c =
    let i = c.loop-column.column-index in
    let columns = c.args.columns.now in
    let within : i < length columns = omega arith in
    let p = takes c.args.only c.args.groups.now.of.items in
    let before = c.loop-column.invariant in
    let column = get_or columns i 0 in
    let few : column < length c.loop-column.targets = omega arith in
    record {
      len = search rules;
      lists = elim c.if-takes.branch [
        | then-takes+in_ok-push w ↦
            let v = w.index-targets-column in
            λ k. ap (λ ts. list_at (map (λ x. x.items) ts) k) w.targets-is
            ∙ column_taken c.args.next p columns i 0 within (λ x. x.items) c.args.targets.now c.loop-column.targets
            before.lists column v.result w.push.new.self refl (sym c.takes.ensures ∙ w.if-takes.true) few
            w.in_ok-push.ensures.items k
        | else-takes w ↦ grind (arith, common_steps)
      ];
    }

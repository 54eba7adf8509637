use Rattle.rx_spec.proofs.Prelude.{arith, ◌≡◌, false, ap, subst, sym, ◌∙◌, common_steps}
use Rattle.rx_dense.specs.declared.special.Special.{Special}
use Rattle.rx_dense.specs.Layouts.{Layout}
use Rattle.rx_build.specs.Making.{IsMade, marked_as}
use Rattle.rx_build.proofs.StartMarks.{unmarked, unmarked_order, unmarked_special}
use Rattle.rx_build.proofs.Stages.{unmarked_made}
use Rattle.rx_build.proofs.dense.builder.mark_starts.Goals as goal

pub returns-then-not-yes-clause-in_order : goal.returns-then-not-yes-clause-in_order
returns-then-not-yes-clause-in_order c = grind (arith, common_steps, unmarked_special, unmarked, unmarked_order)

pub returns-then-not-yes-clause-made : goal.returns-then-not-yes-clause-made
returns-then-not-yes-clause-made c = λ b begun joined made.
    let l = c.args.dfa.now in
    let special = c.set_no_special_start_states.ensures ∙ ap unmarked_special c.special.ensures in
    let is : c.set_special.new.self ≡ unmarked l =
    c.set_special.ensures ∙ ap (λ (s : Special). record l { special = s }) special in
    rw c.if-not-yes.true
    (subst (λ (m : Layout). IsMade b (marked_as joined false) begun m) (sym is) (unmarked_made joined made))

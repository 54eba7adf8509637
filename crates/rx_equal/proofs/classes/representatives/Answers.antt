use Rattle.rx_spec.proofs.Prelude.{common_steps, ◌≡◌, ◌+◌, [], ◌∷◌, ◌++◌, refl, sym, ◌∙◌, subst, arith}
use Rattle.rx_spec.specs.declared.Unit.{Unit}
use Rattle.rx_equal.specs.Classes.{Represent}
use Rattle.rx_equal.proofs.Representatives.{RepresentBelow, listed_more, previous_more, all_represented}
use Rattle.rx_equal.proofs.classes.representatives.Goals as goal
use Rattle.rx_equal.proofs.classes.representatives.Goals.{then-not-lead_as_previous+in_ok-push}
use Rattle.rx_equal.proofs.classes.representatives.Goals.{else-not-lead_as_previous}

pub loop-n-init : goal.loop-n-init
loop-n-init g c = grind (arith, common_steps)

pub loop-n-preserved : goal.loop-n-preserved
loop-n-preserved g c =
    let t = g.A.Automaton.table c.args.a.now in
    let u = g.B.Automaton.table c.args.b.now in
    let n = c.loop-n.n in
    elim c.if-not-lead_as_previous.branch [
      | then-not-lead_as_previous+in_ok-push w ↦
          subst (λ units. RepresentBelow t u units (n + 1)) (sym (w.in_ok-push.ensures.ok) ∙ sym w.units-is)
          (listed_more c.loop-n.units n w.unit_at.result w.unit_at.ensures (omega arith) c.loop-n.invariant)
      | else-not-lead_as_previous w ↦
          subst (λ units. RepresentBelow t u units (n + 1)) (sym w.units-is)
          (previous_more c.loop-n.units n (w.if-not-lead_as_previous.ensures.first refl)
          (w.if-not-lead_as_previous.ensures.second refl) c.loop-n.invariant)
    ]

pub returns : goal.returns
returns g c =
    let t = g.A.Automaton.table c.args.a.now in
    let u = g.B.Automaton.table c.args.b.now in
    let n = c.loop-n.n in
    let past : n ≡ 256 = omega arith in
    subst (Represent t u) (sym c.in_ok-push-2.ensures.ok)
    (all_represented (c.loop-n.units ++ Unit.Eoi ∷ []) (n + 1) (omega arith)
    (listed_more c.loop-n.units n Unit.Eoi (sym past) (omega arith) c.loop-n.invariant))

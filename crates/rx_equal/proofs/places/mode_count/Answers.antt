use Rattle.rx_spec.proofs.Prelude.{common_steps, None, ap, ◌∙◌, subst, arith, Anchored}
use Rattle.rx_base.specs.StartConfig.{StartConfig}
use Rattle.rx_equal.specs.Pairs.{AreRefused}
use Rattle.rx_equal.proofs.RefusedPatterns.{two_suffice, all_suffice}
use Rattle.rx_equal.proofs.places.mode_count.Goals as goal

pub returns-in-Refused : goal.returns-in-Refused
returns-in-Refused g c =
    let t = g.A.Automaton.table c.args.a.now in
    let u = g.B.Automaton.table c.args.b.now in
    let place : Anchored → StartConfig = λ mode. record { beside = None; mode = mode } in
    two_suffice t u
    (subst (AreRefused t u) (c.new.ensures ∙ ap place c.mode_at.ensures) c.in-Refused.ensures)

pub returns-in-Rows : goal.returns-in-Rows
returns-in-Rows g c = grind (arith, common_steps, all_suffice)

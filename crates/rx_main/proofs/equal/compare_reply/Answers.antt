use Rattle.rx_spec.proofs.Prelude.{ap, subst, ◌∙◌, arith, IfOk-weaker}
use Rattle.rx_equal.specs.Walks.{IsVerdict}
use Rattle.rx_main.specs.EqualLines.{equal_reply}
use Rattle.rx_main.proofs.EqualAnswers.{equal_told}
use Rattle.rx_main.proofs.equal.compare_reply.Goals as goal

pub returns-in-Equal : goal.returns-in-Equal
returns-in-Equal g c =
    let t = g.A.Automaton.table c.args.a.now in
    let u = g.B.Automaton.table c.args.b.now in
    IfOk-weaker c.equal_reply.result _ _
    (λ reply told.
    equal_told t u c.in-Equal.links reply (subst (IsVerdict t u) c.in-Equal.is c.in_ok-links.ensures)
    (told ∙ ap equal_reply c.len.ensures) (omega arith))
    c.equal_reply.ensures

use Rattle.rx_refine.proofs.Prelude.{arith, sym, ◌∙◌}
use Rattle.rx_refine.proofs.LeadingKey.{first_vote, own_vote, other_vote, half_at_end}
use Rattle.rx_refine.proofs.numbers.leading_key.Goals as goal
use Rattle.rx_refine.proofs.numbers.leading_key.Goals.{then-votes-eq0, else-votes-eq0, then-key-leading}
use Rattle.rx_refine.proofs.numbers.leading_key.Goals.{else-key-leading}

pub loop-row-preserved : goal.loop-row-preserved
loop-row-preserved c =
    elim c.if-votes-eq0.branch [
      | then-votes-eq0 v ↦ elim c.if-key-leading.branch [
        | then-key-leading w ↦
            rw (v.leading-is, w.votes-is) (first_vote c.loop-row-test.true c.loop-row.invariant v.if-votes-eq0.true)
        | else-key-leading w ↦ absurd (w.if-key-leading.false (sym v.leading-is))
      ]
      | else-votes-eq0 v ↦ elim c.if-key-leading.branch [
        | then-key-leading w ↦
            rw (v.leading-is, w.votes-is)
            (own_vote c.loop-row-test.true c.loop-row.invariant (w.if-key-leading.true ∙ v.leading-is))
        | else-key-leading w ↦
            rw (v.leading-is, w.votes-is)
            (other_vote c.loop-row-test.true c.loop-row.invariant (let f = v.if-votes-eq0.false in omega arith)
            (λ e. w.if-key-leading.false (e ∙ sym v.leading-is)))
      ]
    ]

pub returns-clause-half : goal.returns-clause-half
returns-clause-half c = half_at_end (omega arith) (omega arith) c.loop-row.invariant

use Rattle.rx_spec.proofs.Prelude.{ℕ, Option, ap, ◌∙◌, subst}
use Rattle.rx_base.specs.Search.{mode_of}
use Rattle.rx_base.specs.StartConfig.{StartConfig}
use Rattle.rx_equal.specs.Pairs.{pairs_of}
use Rattle.rx_equal.specs.Places.{Meet, beside_at}
use Rattle.rx_equal.specs.Walks.{LookedAt}
use Rattle.rx_equal.proofs.Sides.{sides}
use Rattle.rx_equal.proofs.Walks.{extends_meet, goes_more, went_both}
use Rattle.rx_equal.proofs.walk.Walk.begin_mode.Goals as goal

pub returns-then-not-branch-clause-went_on : goal.returns-then-not-branch-clause-went_on
returns-then-not-branch-clause-went_on g c = went_both c.loop-n.invariant.went_on c.in_ok-begin_place.ensures.went_on

pub loop-n-preserved : goal.loop-n-preserved
loop-n-preserved g c =
    let s = sides g.A.Automaton g.B.Automaton c.args.a.now c.args.b.now in
    let after = pairs_of s.ids s.others c.begin_place.new.self.pairs in
    let place : Option ℕ → StartConfig = λ o. record { beside = o; mode = mode_of c.args.mode.now } in
    let looked = subst (LookedAt s.t s.u c.new-place.result after) c.if-not-branch.false
    c.in_ok-begin_place.ensures.looked in
    goes_more (λ pairs k. Meet s.t s.u pairs (place (beside_at k)))
    (λ _ _ e k met. extends_meet e s.t s.u (place (beside_at k)) met) c.loop-n.invariant
    c.in_ok-begin_place.ensures.went_on looked.0
    (subst (Meet s.t s.u after) (c.new-place.ensures ∙ ap place c.beside_at.ensures) looked.1)

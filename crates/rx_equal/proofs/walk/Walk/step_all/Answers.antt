use Rattle.rx_spec.proofs.Prelude.{◌≡◌, None, Some, subst, arith, Contains, slice_get}
use Rattle.rx_spec.specs.declared.Unit.{Unit}
use Rattle.rx_base.specs.Unit.{unit_number}
use Rattle.rx_equal.specs.Evidence.{next_pair}
use Rattle.rx_equal.specs.Pairs.{pairs_of, rows_of}
use Rattle.rx_equal.specs.Walks.{Stepped, SteppedAll}
use Rattle.rx_equal.proofs.Kept.{kept_ids, kept_rows}
use Rattle.rx_equal.proofs.Representatives.{nexts_by, unit_of}
use Rattle.rx_equal.proofs.Sides.{sides}
use Rattle.rx_equal.proofs.Tests.{got}
use Rattle.rx_equal.proofs.Walks.{extends_contains, extends_get, goes_more, went_both}
use Rattle.rx_equal.proofs.walk.Walk.step_all.Goals as goal

pub step_by-requires-clause-ids : goal.step_by-requires-clause-ids
step_by-requires-clause-ids g c = kept_ids c.requires.walked.kept c.args.at c.get-pair.ensures

pub step_by-requires-clause-there : goal.step_by-requires-clause-there
step_by-requires-clause-there g c =
    extends_get c.loop-i.invariant.went_on.extends c.args.at _
    (kept_rows c.requires.walked.kept c.args.at c.get-pair.ensures)

pub step_by-requires-clause-is_unit : goal.step_by-requires-clause-is_unit
step_by-requires-clause-is_unit g c = unit_of c.requires.represent c.loop-i.i c.get-unit.ensures

pub returns-then-not-branch-clause-stepped : goal.returns-then-not-branch-clause-stepped
returns-then-not-branch-clause-stepped g c =
    let s = sides g.A.Automaton g.B.Automaton c.args.a.now c.args.b.now in
    let after = pairs_of s.ids s.others c.step_by.new.self.pairs in
    let q = rows_of s.ids s.others c.get-pair.result in
    got (λ p. SteppedAll s.t s.u p after (Some c.get-unit.result))
    (kept_rows c.requires.walked.kept c.args.at c.get-pair.ensures) (
      unit_of c.requires.represent c.loop-i.i c.get-unit.ensures,
      subst (Stepped s.t s.u q (unit_number c.get-unit.result) after) c.if-not-branch.true
          c.in_ok-step_by.ensures.stepped,
    )

pub loop-i-preserved : goal.loop-i-preserved
loop-i-preserved g c =
    let s = sides g.A.Automaton g.B.Automaton c.args.a.now c.args.b.now in
    let after = pairs_of s.ids s.others c.step_by.new.self.pairs in
    let q = rows_of s.ids s.others c.get-pair.result in
    let stepped = subst (Stepped s.t s.u q (unit_number c.get-unit.result) after) c.if-not-branch.false
    c.in_ok-step_by.ensures.stepped in
    goes_more (λ pairs k. (v : Unit) → slice_get c.args.units.now k ≡ Some v
    → Contains pairs (next_pair s.t s.u q (unit_number v)))
    (λ _ _ e k known v there. extends_contains e (next_pair s.t s.u q (unit_number v)) (known v there))
    c.loop-i.invariant c.in_ok-step_by.ensures.went_on stepped.0
    (got (λ v. Contains after (next_pair s.t s.u q (unit_number v))) c.get-unit.ensures stepped.1)

pub returns-clause-stepped : goal.returns-clause-stepped
returns-clause-stepped g c =
    let s = sides g.A.Automaton g.B.Automaton c.args.a.now c.args.b.now in
    let after = pairs_of s.ids s.others c.loop-i.self.pairs in
    let kept = c.requires.walked.kept in
    got (λ p. SteppedAll s.t s.u p after None) (kept_rows kept c.args.at c.get-pair.ensures) (
      c.loop-i.invariant.labels,
      nexts_by after c.requires.represent (g.met.A.Automaton.are_ids c.args.a.now)
          (g.met.B.Automaton.are_ids c.args.b.now) (kept_ids kept c.args.at c.get-pair.ensures)
          c.loop-i.invariant.done (omega arith),
    )

pub returns-then-not-branch-clause-went_on : goal.returns-then-not-branch-clause-went_on
returns-then-not-branch-clause-went_on g c = went_both c.loop-i.invariant.went_on c.in_ok-step_by.ensures.went_on

use Rattle.rx_spec.proofs.Prelude.{arith, ◌≡◌, ◌+◌, ℕ, true, List, [], ap, sym, subst, common_steps, All-get_or}
use Rattle.rx_spec.proofs.Prelude.{get_or_from_slice_get, err_from_is_err_and}
use Rattle.rx_determinize.proofs.Prelude.{keying, AreModels, Continues, IsExploring, Keying, Stepping, stepping_of}
use Rattle.rx_determinize.proofs.Prelude.{work_of}
use Rattle.rx_determinize.proofs.ContinuesLaws.{continues_twice, refused_later}
use Rattle.rx_determinize.proofs.ModelLaws.{models_later}
use Rattle.rx_determinize.proofs.SteppingLaws.{stepping_begun}
use Rattle.rx_determinize.proofs.construction.Construction.step.Goals.{After-begin_row-copied, In_ok-fill}
use Rattle.rx_determinize.proofs.construction.Construction.step.Goals as goal

pub begin-requires : goal.begin-requires
begin-requires c =
    let s = stepping_of c.args.self.now.stepper in
    let keys = c.args.self.now.states.keys in
    subst (λ (k : List ℕ). s.is_key k ≡ true)
    (get_or_from_slice_get keys c.args.place c.key.result.now [] c.key.ensures)
    (All-get_or (λ k. s.is_key k ≡ true) keys c.args.place [] c.requires.place
    c.requires.exploring.entering.serves.working.are_keys)

pub begin_row-copied-requires-clause-stepping : goal.begin_row-copied-requires-clause-stepping
begin_row-copied-requires-clause-stepping c =
    stepping_begun (work_of c.args.self.now) (stepping_of c.begin.new.self) c.begin.ensures.kept
    c.in_ok-begin.ensures.current c.key.ensures c.requires.exploring.entering

pub begin_row-copied-requires-clause-models : goal.begin_row-copied-requires-clause-models
begin_row-copied-requires-clause-models c =
    let l = c.args.dfa.now in
    subst (λ (k : Keying). AreModels k c.args.self.now.states l c.args.models.now c.args.place)
    (sym (ap (λ (t : Stepping). keying t l) c.begin.ensures.kept)) c.requires.exploring.models

-- the state is begun, and its row may have been copied
begun : (c : After-begin_row-copied) → Continues (work_of c.args.self.now) c.args.dfa.now
    (record (work_of c.args.self.now) { stepping = stepping_of c.begin.new.self }) c.begin_row-copied.new.dfa
begun c = grind (arith, common_steps)

pub returns-in_err-fill-clause-err : goal.returns-in_err-fill-clause-err
returns-in_err-fill-clause-err c =
    let p = err_from_is_err_and c.from_residual-in_err-fill.result c.from_residual-in_err-fill.ensures.1 in
    rw (p.1, p.2)
    (refused_later (begun (goal.at.returns-in_err-fill-clause-err c).After-begin_row-copied)
    c.in_err-fill.field-0.0.kind c.in_err-fill.ensures.err)

later : (c : In_ok-fill) → Continues (work_of c.args.self.now) c.args.dfa.now (work_of c.fill.new.self) c.fill.new.dfa
later c = continues_twice (begun (goal.at.In_ok-fill c).After-begin_row-copied) c.in_ok-fill.ensures.later

exploring : (c : In_ok-fill) → IsExploring (work_of c.fill.new.self) c.fill.new.dfa c.args.models.now (c.args.place + 1)
exploring c = record {
  entering = c.in_ok-fill.ensures.entering;
  models = models_later c.args.models.now c.args.place (later c) c.requires.exploring.models;
}

pub keep_model-requires-clause-exploring : goal.keep_model-requires-clause-exploring
keep_model-requires-clause-exploring c = exploring (goal.at.keep_model-requires-clause-exploring c).In_ok-fill

pub returns-then-not-copied-clause-later : goal.returns-then-not-copied-clause-later
returns-then-not-copied-clause-later c = later (goal.at.returns-then-not-copied-clause-later c).In_ok-fill

pub returns-else-not-copied-clause-exploring : goal.returns-else-not-copied-clause-exploring
returns-else-not-copied-clause-exploring c = exploring (goal.at.returns-else-not-copied-clause-exploring c).In_ok-fill

pub returns-else-not-copied-clause-later : goal.returns-else-not-copied-clause-later
returns-else-not-copied-clause-later c = later (goal.at.returns-else-not-copied-clause-later c).In_ok-fill

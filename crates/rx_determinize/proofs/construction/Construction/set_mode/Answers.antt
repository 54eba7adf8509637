use Rattle.rx_spec.proofs.Prelude.{common_steps, ◌≡◌, ◌+◌, ap, sym, subst, arith, err_from_is_err_and}
use Rattle.rx_determinize.proofs.Prelude.{IsEntering, IsId-row_id, mode_of, mode_place, work_of}
use Rattle.rx_determinize.proofs.ContinuesLaws.{continues_none, continues_twice, refused_later}
use Rattle.rx_determinize.proofs.ModeLaws.{context_set, mode_reached, starts_later}
use Rattle.rx_determinize.proofs.StartLaws.{SetsStart, context_at, start_continues, start_set}
use Rattle.rx_determinize.proofs.construction.Construction.set_mode.Goals as goal

pub contexts-init : goal.contexts-init
contexts-init c =
    let w = work_of c.args.self.now in
    let l = c.args.dfa.now in
    record {
      entering = subst (λ n. IsEntering w l n 0) (omega arith) c.requires.entering;
      later = continues_none w l;
    }

pub start_row-requires-clause-reached : goal.start_row-requires-clause-reached
start_row-requires-clause-reached c = mode_reached _ (starts_later c.contexts.invariant.later c.requires.starts)

pub set_start_state-requires-clause-is_id : goal.set_start_state-requires-clause-is_id
set_start_state-requires-clause-is_id c = IsId-row_id c.start_row.new.dfa c.in_ok-id.id c.in_ok-id.ensures.found.is_id

pub set_start_state-requires-clause-has_starts : goal.set_start_state-requires-clause-has_starts
set_start_state-requires-clause-has_starts c = grind (arith, common_steps)

pub returns-in_err-id-clause-err : goal.returns-in_err-id-clause-err
returns-in_err-id-clause-err c =
    let p = err_from_is_err_and c.from_residual.result c.from_residual.ensures.1 in
    rw (p.1, p.2) (refused_later c.contexts.invariant.later c.in_err-id.field-0.0.kind c.in_err-id.ensures.err)

pub contexts-preserved : goal.contexts-preserved
contexts-preserved c =
    let i = c.contexts.invariant in
    let place = mode_place (mode_of c.args.mode.now) in
    let sets : SetsStart (work_of c.contexts.self) c.contexts.dfa (mode_of c.args.mode.now) _
    (work_of c.start_row.new.self) c.set_start_state.new.self =
    context_set (starts_later i.later c.requires.starts) c.in_ok-id.ensures.found c.set_start_state.ensures in
    let number = context_at c.contexts.i _ (omega arith) in
    let entering = start_set sets
    (subst (λ n. IsEntering (work_of c.contexts.self) c.contexts.dfa n 0) (ap (λ n. place + n) (sym number))
    i.entering) (omega arith) in
    record {
      entering =
          subst (λ n. IsEntering (work_of c.start_row.new.self) c.set_start_state.new.self n 0)
          (omega arith) entering;
      later = continues_twice i.later (start_continues sets);
    }

pub returns-clause-entering : goal.returns-clause-entering
returns-clause-entering c =
    let i = c.contexts.invariant in
    let all : c.contexts.i ≡ 6 = omega arith in
    grind (arith, common_steps)

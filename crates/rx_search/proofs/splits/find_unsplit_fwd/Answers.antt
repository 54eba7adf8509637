use Rattle.rx_spec.proofs.Prelude.{arith, sym, ◌∙◌, rules, common_steps, half_search}
use Rattle.rx_spec.specs.declared.Direction.{Direction}
use Rattle.rx_base.specs.Input.{query_of}
use Rattle.rx_search.proofs.Unsplit.{unsplit_none, unsplit_fails, unsplit_match}
use Rattle.rx_search.proofs.InSpan.{unsplit_in_span}
use Rattle.rx_search.proofs.splits.find_unsplit_fwd.Goals as goal

pub returns-in-Ok-None-clause-answer : goal.returns-in-Ok-None-clause-answer
returns-in-Ok-None-clause-answer g c =
    let t = g.A.Automaton.table c.args.dfa.now in
    let found = rw c.in-Ok-None.field-0-is at c.in-Ok-None.ensures.answer in
    sym (unsplit_none t Direction.Forward c.requires.fits (sym found))

pub returns-in-Err-clause-answer : goal.returns-in-Err-clause-answer
returns-in-Err-clause-answer g c =
    let t = g.A.Automaton.table c.args.dfa.now in
    sym (unsplit_fails t Direction.Forward c.requires.fits c.in-Err.error (sym c.in-Err.ensures.answer))

pub skip_splits_fwd-requires-clause-first : goal.skip_splits_fwd-requires-clause-first
skip_splits_fwd-requires-clause-first g c = grind (arith, common_steps)

pub skip_splits_fwd-requires-clause-within : goal.skip_splits_fwd-requires-clause-within
skip_splits_fwd-requires-clause-within g c = grind (arith, common_steps)

pub returns-clause-answer : goal.returns-clause-answer
returns-clause-answer g c =
    let t = g.A.Automaton.table c.args.dfa.now in
    let found = rw c.in-Ok-Some.field-0-is at c.in-Ok-Some.ensures.answer in
    c.skip_splits_fwd.ensures (half_search t.machine t.settings Direction.Forward) (λ at told fits says. search rules)
    ∙ sym (unsplit_match t Direction.Forward c.requires.fits c.in-Ok-Some.first
    (sym c.skips_splits.ensures ∙ c.if-not-skips_splits.false) (sym found))

pub returns-clause-within : goal.returns-clause-within
returns-clause-within g c =
    let t = g.A.Automaton.table c.args.dfa.now in
    unsplit_in_span t Direction.Forward (query_of c.args.input.now) c.skip_splits_fwd.result (returns-clause-answer g c)

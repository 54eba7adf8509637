use Rattle.rx_spec.proofs.Prelude.{common_steps, ℕ, map, ap, sym, ◌∙◌, arith, slice_index, row_at, target}
use Rattle.rx_stepper.proofs.Prelude.{list_at, matches_of, meaning}
use Rattle.rx_stepper.proofs.EmptyLists.{set_here, set_other, list_there, written_more}
use Rattle.rx_stepper.proofs.GroupLoop.{matches_more, none_match}
use Rattle.rx_stepper.proofs.steps.ColumnSteps.add_plain.Goals as goal

pub loop-group-init : goal.loop-group-init
loop-group-init c = grind (arith, common_steps)

pub loop-group-preserved : goal.loop-group-preserved
loop-group-preserved c = grind (arith, common_steps, list_there, set_other, set_here, matches_more)

pub returns-clause-matches : goal.returns-clause-matches
returns-clause-matches c = grind (arith, common_steps)

pub returns-clause-targets : goal.returns-clause-targets
returns-clause-targets c = λ units reads column h.
    let rows = (meaning c.args.closures.now.nfa.now).rows in
    let leads = λ (q : ℕ). target (slice_index units column) (row_at rows q) in
    let added = c.in_ok-add_targets.ensures in
    ap (λ v. list_at (map (λ v. v.items) v.items) column) c.loop-group.invariant.targets
    ∙ written_more (λ v. v.items) c.add_targets.new.targets leads column c.deref_mut.ensures.value added.len
    c.args.self.now.targets.ok.0 c.cut-going.ensures (added.lists rows units reads column h)

-- ---- none of the rows matches

pub returns-then-not-has_match-clause-matches : goal.returns-then-not-has_match-clause-matches
returns-then-not-has_match-clause-matches c = λ group used.
    let rows = (meaning c.args.closures.now.nfa.now).rows in
    c.requires.matches group
    ∙ sym (ap (matches_of rows) (sym c.cut-going.ensures)
    ∙ none_match rows c.cut-going.result.now (sym c.has_match.ensures ∙ c.if-not-has_match.true))

pub returns-then-not-has_match-clause-targets : goal.returns-then-not-has_match-clause-targets
returns-then-not-has_match-clause-targets c = λ units reads column h.
    let rows = (meaning c.args.closures.now.nfa.now).rows in
    let leads = λ (q : ℕ). target (slice_index units column) (row_at rows q) in
    let added = c.in_ok-add_targets.ensures in
    written_more (λ v. v.items) c.add_targets.new.targets leads column c.deref_mut.ensures.value added.len
    c.args.self.now.targets.ok.0 c.cut-going.ensures (added.lists rows units reads column h)

use Rattle.rx_spec.proofs.Prelude.{rules, ◌≡◌, ◌++◌, ℕ, length, map, Some, ap, ap₂, ◌∙◌, arith, common_steps}
use Rattle.rx_spec.proofs.Prelude.{slice_index, flat_map, row_at, target}
use Rattle.rx_stepper.proofs.Prelude.{facts_with, going_by, list_at, meaning, only_if, takes}
use Rattle.rx_stepper.proofs.EmptyLists.{set_here, set_other, written_back}
use Rattle.rx_stepper.proofs.Results.{on_ok-map}
use Rattle.rx_stepper.proofs.StepLaws.{few_told}
use Rattle.rx_stepper.proofs.steps.ColumnSteps.add_group.Goals as goal

going_is : (c : goal.After-self-3-1) → c.cut-going.result.now
    ≡ going_by (meaning c.args.closures.now.nfa.now) c.args.kind c.args.last (facts_with c.args.group) c.args.rows.now
going_is c = search rules

pub returns-clause-others : goal.returns-clause-others
returns-clause-others c = grind (arith, common_steps, set_other)

pub returns-clause-matches : goal.returns-clause-matches
returns-clause-matches c = grind (arith, common_steps, going_is, set_here)

pub returns-clause-few : goal.returns-clause-few
returns-clause-few c = search (rules, few_told)

pub returns-clause-targets : goal.returns-clause-targets
returns-clause-targets c =
    let rows = (meaning c.args.closures.now.nfa.now).rows in
    on_ok-map c.add_targets.result
    (λ lists units reads column h.
    let taken = takes (Some c.args.group) c.args.columns.now.groups.of.items column in
    let leads = λ (q : ℕ). only_if taken (target (slice_index units column) (row_at rows q)) in
    let targets = c.args.self.now.targets in
    let kept = c.add_targets.ensures.len ∙ ap length c.deref_mut.ensures.value in
    let whole = written_back c.add_targets.new.targets targets.items targets.len kept targets.ok.0 in
    ap (λ l. list_at (map (λ v. v.items) l) column) whole ∙ lists rows units reads column h
    ∙ ap₂ (λ l g. list_at (map (λ v. v.items) l) column ++ flat_map leads g) c.deref_mut.ensures.value (going_is c))
    c.add_targets.ensures.lists

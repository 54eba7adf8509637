use Rattle.rx_spec.proofs.Prelude.{common_steps, ℕ, map, ap, ◌∙◌, arith, take_all, slice_index, ◌++◌, flat_map, row_at}
use Rattle.rx_spec.proofs.Prelude.{target}
use Rattle.rx_stepper.proofs.Prelude.{list_at, only_if, takes}
use Rattle.rx_stepper.proofs.TargetLists.{led_filtered}
use Rattle.rx_stepper.proofs.targets.add_targets.Goals as goal

pub loop-row-preserved : goal.loop-row-preserved
loop-row-preserved c = grind (arith, common_steps, led_filtered)

pub returns-clause-lists : goal.returns-clause-lists
returns-clause-lists c = λ nfa units reads column h.
    let leads =
    λ (q : ℕ). only_if (takes c.args.only c.args.groups.now.of.items column) (target (slice_index units column)
    (row_at nfa q)) in
    let all = take_all c.loop-row.row-index c.args.rows.now c.loop-row-test.false in
    c.loop-row.invariant.lists nfa units reads column h
    ∙ ap (λ l. list_at (map (λ v. v.items) c.args.targets.now) column ++ flat_map leads l) all

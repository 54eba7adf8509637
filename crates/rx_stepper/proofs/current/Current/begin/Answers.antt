use Rattle.rx_spec.proofs.Prelude.{arith, ◌++◌, List, ℕ, map, ap₂, ◌∙◌, subst, common_steps, Facts}
use Rattle.rx_stepper.proofs.Prelude.{AreSteps, own_of, rows_in}
use Rattle.rx_stepper.proofs.GroupLoop.{stand}
use Rattle.rx_stepper.proofs.Results.{on_ok-map}
use Rattle.rx_stepper.proofs.current.Current.begin.Goals as goal

pub push_rows-requires : goal.push_rows-requires
push_rows-requires c = grind (arith, common_steps)

pub find-requires-clause-closed : goal.find-requires-clause-closed
find-requires-clause-closed c = grind (arith, common_steps)

pub returns-clause-led_in : goal.returns-clause-led_in
returns-clause-led_in c = grind (arith, common_steps)

pub returns-clause-steps : goal.returns-clause-steps
returns-clause-steps c =
    let nfa = c.args.closures.now.nfa.now in
    let rows = c.deref.ensures.value ∙ c.in_ok-push_rows.ensures
    ∙ ap₂ (λ a b. a ++ b) c.clear-2.ensures.items c.own_of.ensures in
    let new = c.find.new.self in
    on_ok-map c.find.result
    (λ steps units reads groups.
    let Is = λ (l : List ℕ) (f : Facts). AreSteps (stand nfa c.args.kind (rows_in l f)) units
    c.args.columns.now.groups.of.items (map (λ v. v.items) new.targets.items) (map (λ v. v.items) new.matches.items) in
    subst (Is (own_of c.args.key.now)) c.context_of-last.ensures
    (subst (λ l. Is l c.context_of-last.result) rows (steps units reads groups)))
    c.find.ensures.steps

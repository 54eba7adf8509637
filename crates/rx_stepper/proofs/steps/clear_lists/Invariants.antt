use Rattle.rx_spec.proofs.Prelude.{◌≡◌, ◌<◌, ℕ, [], get_or, map}
use Rattle.rx_stepper.proofs.steps.clear_lists.Given as goal

abbrev pub invariant-loop-list : goal.invariant-loop-list
invariant-loop-list l = (k : ℕ) → k < l.list-index → get_or (map (λ v. v.items) l.lists) k [] ≡ []

-- The numbers of rows of a plan's tables are determined.
use Rattle.rx_spec.proofs.Prelude.{arith, ◌≡◌, ◌+◌, ℕ, Bool, true, false, List, ap, sym, ◌∙◌, common_steps, Expression}
use Rattle.rx_spec.proofs.Prelude.{Build}
use Rattle.rx_plan.specs.Plans.{Plan}
use Rattle.rx_lemmas.proofs.Sizes.{reached_count}
use Rattle.rx_meaning.proofs.Reduced.{least_is_one_holds}
use Rattle.rx_regex.specs.Rows.{CountsRows, HaveRows}

-- each reached state is counted once, and there is one least number
count_once : (minimize : Bool) (b : Build) (rows other : ℕ) → CountsRows minimize b rows → CountsRows minimize b other
    → rows ≡ other
count_once false b rows other h k =
    h.count ∙ ap (λ n. n + 2) (reached_count b h.states k.states h.reached k.reached) ∙ sym k.count
count_once true b rows other h k = least_is_one_holds b rows other h k

pub rows_once : {p : Plan} {es : List Expression} (forward reverse also_forward also_reverse : ℕ)
    → HaveRows p es forward reverse → HaveRows p es also_forward also_reverse
    → (forward ≡ also_forward) × (reverse ≡ also_reverse)
rows_once {p} {es} forward reverse also_forward also_reverse h k = grind (arith, common_steps, count_once)

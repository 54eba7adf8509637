use Rattle.rx_spec.proofs.Prelude.{ℕ, ◌<◌, ◌≤◌}
use Rattle.rx_stepper.proofs.Prelude.{IsAlone, stepping_of}
use Rattle.rx_stepper.proofs.stepper.Stepper.next_own.Given as goal

-- by the columns so far no rows of its own go on
abbrev pub invariant-loop-column : goal.invariant-loop-column
invariant-loop-column l = (c : ℕ) → l.from ≤ c → c < l.column → IsAlone (stepping_of l.self) c

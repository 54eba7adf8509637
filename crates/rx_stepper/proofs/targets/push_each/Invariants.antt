use Rattle.rx_spec.proofs.Prelude.{◌≡◌, ℕ, ◌++◌, length, map, take, filter}
use Rattle.rx_stepper.proofs.Prelude.{led_by, list_at, takes}
use Rattle.rx_stepper.proofs.targets.push_each.Given as goal

abbrev pub invariant-loop-column : goal.invariant-loop-column
invariant-loop-column l =
    let taken = filter (takes l.only l.groups.of.items) (take l.column-index l.columns) in
    record {
      len : length l.targets ≡ length l.fn.targets;
      lists : (column : ℕ) → list_at (map (λ v. v.items) l.targets) column
          ≡ list_at (map (λ v. v.items) l.fn.targets) column ++ led_by l.next taken column;
    }

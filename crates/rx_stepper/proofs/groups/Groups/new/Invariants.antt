use Rattle.rx_spec.proofs.Prelude.{◌≡◌, ◌<◌, ℕ, length, map, get_or, true, false, All}
use Rattle.rx_stepper.proofs.Prelude.{IsGroup, meaning, unit_number}
use Rattle.rx_stepper.proofs.groups.Groups.new.Given as goal

abbrev pub invariant-loop-unit : goal.invariant-loop-unit
invariant-loop-unit l =
    let units = map unit_number l.units in
    record {
      len : length l.of.items ≡ l.unit-index;
      used_len : length l.used.items ≡ 32;
      each : (k : ℕ) → k < l.unit-index → IsGroup (meaning l.nfa) (get_or units k 0) (get_or l.of.items k 0);
      below : All (λ group. group < 32) l.of.items;
      used : (k : ℕ) → k < l.unit-index → get_or l.used.items (get_or l.of.items k 0) false ≡ true;
    }

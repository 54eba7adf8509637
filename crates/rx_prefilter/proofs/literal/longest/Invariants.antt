use Rattle.rx_spec.proofs.Prelude.{ℕ, ◌+◌, ◌≤◌}
use Rattle.rx_prefilter.specs.Literals.{EndsWith}
use Rattle.rx_prefilter.proofs.literal.longest.Given as goal

abbrev pub invariant-lens : goal.invariant-lens
invariant-lens l = record {
  few : l.len ≤ l.k + 1;
  most : (i : ℕ) → EndsWith l.literal l.k l.byte i → i ≤ l.len;
}

abbrev pub decreases-lens : goal.decreases-lens
decreases-lens l = l.len

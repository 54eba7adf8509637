-- The rows that stand for a literal's first bytes.
use Rattle.rx_spec.proofs.Prelude.{◌≡◌, ℕ, ◌<◌, false, List, length, slice_index, slice_index_or, sym, ◌∙◌, [], eoi}
use Rattle.rx_spec.proofs.Prelude.{Label, Table}
use Rattle.std.proofs.lemmas.Grind.{get_or_default_zero}
use Rattle.rx_prefilter.specs.Literals.{LeadsOn}

-- one of them
pub record IsRowOf (t : Table) (literal : List ℕ) (at : ℕ → ℕ) (k : ℕ) : Type 0 where
  pub plain : t.machine.label (at k) ≡ Label.Plain
  pub alive : t.machine.is_dead (at k) ≡ false
  pub silent : t.machine.label (t.machine.next (at k) eoi) ≡ Label.Plain
  pub leads : (byte : ℕ) → byte < 256 → LeadsOn t literal at k byte

-- an element that was read
pub read : (xs : List ℕ) (i x : ℕ) → i < length xs → x ≡ slice_index_or xs i x → slice_index xs i ≡ x
read xs i x h e = sym (get_or_default_zero xs i x h) ∙ sym e

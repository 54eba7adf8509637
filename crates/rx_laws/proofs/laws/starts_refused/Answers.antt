use Rattle.rx_spec.proofs.Prelude.{◌≡◌, ℕ, false, Option, Some, None, refl, contains, Anchored, Settings, mode_error}
use Rattle.rx_spec.proofs.Prelude.{start_error}
use Rattle.rx_lemmas.proofs.Splits.{half_when_done}
use Rattle.rx_laws.proofs.laws.starts_refused.Goals as goal

by_mode : (s : Settings) (beside : Option ℕ) (mode : Anchored)
    → ((byte : ℕ) → beside ≡ Some byte → contains s.quit byte ≡ false) → start_error s beside mode ≡ mode_error s mode
by_mode s None mode none = refl
by_mode s (Some byte) mode none = rw (none byte refl) refl

pub returns : goal.returns
returns c = record {
  by_byte = λ s byte mode quits. rw quits refl;
  by_mode = by_mode;
  done = λ t direction q done. half_when_done t.machine t.settings direction q done;
}

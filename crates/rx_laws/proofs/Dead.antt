-- Dead stays dead.
use Rattle.rx_spec.proofs.Prelude.{◌≡◌, ℕ, refl, fresh, to_first_match, step, dead_state, Nfa, dead}
use Rattle.rx_spec.specs.declared.MatchKind.{MatchKind}

-- a step of the dead state leads back to it, on a byte and on the end mark
pub step_dead : (nfa : Nfa) (kind : MatchKind) (unit : ℕ) → step nfa kind dead_state unit ≡ dead_state
unfolding step fresh to_first_match
step_dead nfa MatchKind.All unit = refl
step_dead nfa MatchKind.LeftmostFirst unit = refl

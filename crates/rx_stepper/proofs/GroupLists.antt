-- Lists of groups that grow at the end, and marks on the groups.
use Rattle.rx_spec.proofs.Prelude.{common_steps, ◌≡◌, ℕ, ◌+◌, ◌<◌, Bool, true, false, List, [], ◌∷◌, ◌++◌, length}
use Rattle.rx_spec.proofs.Prelude.{get_or, set, arith, Facts, both, facts_kept, unit_facts, Nfa}
use Rattle.rx_stepper.proofs.Prelude.{IsGroup, bits_of, facts_with}

-- what holds of each number of a list holds with one more
pub each_push : (P : ℕ → ℕ → Type 0) (xs : List ℕ) (y i : ℕ) → length xs ≡ i → ((k : ℕ) → k < i → P k (get_or xs k 0))
    → P i y → (k : ℕ) → k < i + 1 → P k (get_or (xs ++ y ∷ []) k 0)
each_push P xs y i len each here k h = grind (arith, common_steps)

-- a mark more
pub still_marked : (used : List Bool) (group v : ℕ) → group < length used → get_or used v false ≡ true
    → get_or (set used group true) v false ≡ true
still_marked used group v lt old = grind (arith, common_steps)

-- a group as it is made: from the facts of a unit that are asked for
pub is_group : (nfa : Nfa) {unit number group t : ℕ} {asked known facts : Facts} → unit ≡ number
    → t ≡ nfa.line_terminator → asked ≡ facts_kept nfa.rows → known ≡ unit_facts t number → facts ≡ both asked known
    → group ≡ bits_of facts → facts_with group ≡ facts → IsGroup nfa unit group
is_group nfa unit_is terminator asked known facts bits back = grind (arith, common_steps)

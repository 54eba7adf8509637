-- The parts of a step, put together.
use Rattle.rx_spec.proofs.Prelude.{arith, ◌≡◌, ℕ, List, Result, Ok, Err, IfOk, ◌∙◌, common_steps, flat_map, Facts}
use Rattle.rx_spec.proofs.Prelude.{unit_facts, holds_read, Nfa, State, Tested, row_at, decided_rows, cut, pattern_of}
use Rattle.rx_spec.proofs.Prelude.{target, state_at, step}
use Rattle.rx_spec.specs.declared.Direction.{Direction}
use Rattle.rx_spec.specs.declared.MatchKind.{MatchKind}
use Rattle.rx_spec.specs.Closures.{closed_rows}

-- what an answer is known to be, by what that equals
pub answered : {S E T : Type 0} (f : S → T) (r : Result S E) {a b : T} → a ≡ b → IfOk r (λ s. f s ≡ a)
    → IfOk r (λ s. f s ≡ b)
answered f (Ok s) e h = h ∙ e
answered f (Err x) e h = h

-- the rows that are closed under the facts and the direction at hand
pub decided : {known : Facts} {direction : Direction} {from rows : List ℕ} (nfa : Nfa) (s : State) (unit : ℕ)
    → known ≡ unit_facts nfa.line_terminator unit → direction ≡ nfa.direction → from ≡ s.rows
    → rows ≡ closed_rows nfa.rows (Tested (λ look. holds_read direction look s.context known)) from
    → rows ≡ decided_rows nfa unit s
decided {from = from} nfa s unit known direction from_is rows_are = grind (arith, common_steps)

-- what the parts of a step were found to be
pub record Parts (nfa : Nfa) (kind : MatchKind) (s : State) (unit : ℕ) (known : Facts) (going targets label : List ℕ)
    : Type 0 where
  pub known_is : known ≡ unit_facts nfa.line_terminator unit
  pub going_is : going ≡ cut kind nfa.rows (decided_rows nfa unit s)
  pub targets_are : targets ≡ flat_map (λ q. target unit (row_at nfa.rows q)) going
  pub label_is : label ≡ flat_map (λ q. pattern_of (row_at nfa.rows q)) going

pub stepped : {nfa : Nfa} {kind : MatchKind} {s : State} {unit : ℕ} {known : Facts} {going targets label : List ℕ}
    → Parts nfa kind s unit known going targets label → state_at nfa targets known label ≡ step nfa kind s unit
unfolding step
stepped {nfa} {unit = unit} p = grind (arith, common_steps)

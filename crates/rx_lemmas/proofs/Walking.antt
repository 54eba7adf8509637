-- What a unit does to a walk: over any machine, over one whose dead rows are silent, and over a build's
-- powerset machine.
use Rattle.rx_spec.proofs.Prelude.{[], arith, ◌≡◌, ℕ, Bool, true, false, if◌then◌else◌, Option, Ok, Err, List, ◌∷◌}
use Rattle.rx_spec.proofs.Prelude.{refl, ap, ◌∙◌, common_steps, contains, HalfMatch, MatchError, label_of, Machine}
use Rattle.rx_spec.proofs.Prelude.{IsWord, State, step, Build, Node, dead, is_dead_state, power, HalfAnswer}
use Rattle.rx_spec.proofs.Prelude.{next_offset, unit_offset, last_match, at_label, walk}
use Rattle.rx_spec.specs.declared.Direction.{Direction}
use Rattle.rx_lemmas.proofs.SilentRows.{IsSilent, silent_label, silent_next}
use Rattle.rx_lemmas.proofs.Words.{IsWord-head, IsWord-tail}

module _ {R : Type 0} (m : Machine R) (direction : Direction) (earliest : Bool) where
  -- a walk with nothing left to read
  pub walk-nil : (row : R) (offset : ℕ) (last : Option HalfMatch)
      → walk m direction earliest row offset last [] ≡ Ok last
  unfolding walk
  walk-nil row offset last = refl

  -- how a walk goes on from the row to which a unit has led
  abbrev pub walk_on : (unit offset : ℕ) → Option HalfMatch → List ℕ → R → HalfAnswer
  walk_on unit offset last units next =
      let met = last_match (m.label next) offset last in
      at_label (m.label next) direction earliest unit offset (Ok met)
      (if m.is_dead next then Ok met else walk m direction earliest next (next_offset direction offset) met units)

  pub walk-cons : (row : R) (unit offset : ℕ) (last : Option HalfMatch) (units : List ℕ)
      → walk m direction earliest row offset last (unit ∷ units) ≡ walk_on unit offset last units (m.next row unit)
  unfolding walk
  walk-cons row unit offset last units = refl

  -- the same where dead isn't looked at
  abbrev pub walk_through : (unit offset : ℕ) → Option HalfMatch → List ℕ → R → HalfAnswer
  walk_through unit offset last units next =
      let met = last_match (m.label next) offset last in
      at_label (m.label next) direction earliest unit offset (Ok met)
      (walk m direction earliest next (next_offset direction offset) met units)

  -- that makes no difference where a walk from a dead row keeps what it has
  pub walk_passes : (unit offset : ℕ) (last : Option HalfMatch) (units : List ℕ) (next : R)
      → (m.is_dead next ≡ true → (kept : Option HalfMatch)
      → walk m direction earliest next (next_offset direction offset) kept units ≡ Ok kept)
      → walk_on unit offset last units next ≡ walk_through unit offset last units next
  walk_passes unit offset last units next stays = grind (arith, common_steps)

  pub walk_silent : (row : R) (offset : ℕ) (last : Option HalfMatch) (units : List ℕ) → IsWord units → IsSilent m row
      → walk m direction earliest row offset last units ≡ Ok last
  walk_silent row offset last [] w s = walk-nil row offset last
  walk_silent row offset last (unit ∷ units) w s =
      let next = m.next row unit in
      let silent = silent_next m row unit s (IsWord-head unit units w) in
      let here = next_offset direction offset in
      let later = λ (kept : Option HalfMatch). walk_silent next here kept units (IsWord-tail unit units w) silent in
      walk-cons row unit offset last units ∙ walk_passes unit offset last units next (λ e kept. later kept)
      ∙ ap (λ l. at_label l direction earliest unit offset (Ok (last_match l offset last))
      (walk m direction earliest next here (last_match l offset last) units)) (silent_label m next silent)
      ∙ later last

  -- a unit more, where a dead row is silent
  pub walk-more : (row : R) (unit offset : ℕ) (last : Option HalfMatch) (units : List ℕ) → IsWord units
      → (m.is_dead (m.next row unit) ≡ true → IsSilent m (m.next row unit))
      → walk m direction earliest row offset last (unit ∷ units) ≡ walk_through unit offset last units (m.next row unit)
  walk-more row unit offset last units w silent = grind (arith, common_steps, walk-cons, walk_silent)

-- a search for the last match goes on at every label of a state
pub goes_on : (label : List ℕ) (direction : Direction) (unit offset : ℕ) (now later : HalfAnswer)
    → at_label (label_of label) direction false unit offset now later ≡ later
goes_on [] direction unit offset now later = refl
goes_on (k ∷ ks) direction unit offset now later = refl

-- A unit leads a state to dead, where the state is dead; to quit; or on to a step of the state.
pub data Leads (b : Build) (s : State) (unit : ℕ) : Type 0 where
  Dead : is_dead_state s ≡ true → Leads b s unit
  Quits : is_dead_state s ≡ false → contains b.quit unit ≡ true → Leads b s unit
  Steps : is_dead_state s ≡ false → contains b.quit unit ≡ false → Leads b s unit

pub leads : (b : Build) (s : State) (unit : ℕ) → Leads b s unit
leads b s unit = grind (arith, common_steps)

module _ (b : Build) (direction : Direction) (earliest : Bool) where
  -- the walk of a state
  abbrev pub state_walk : State → ℕ → Option HalfMatch → List ℕ → HalfAnswer
  state_walk s offset last units = walk (power b) direction earliest (Node.Running s) offset last units

  -- dead: nothing more is told
  pub walk_dead : (s : State) (offset : ℕ) (last : Option HalfMatch) (units : List ℕ) → is_dead_state s ≡ true
      → state_walk s offset last units ≡ Ok last
  walk_dead s offset last [] e = walk-nil (power b) direction earliest (Node.Running s) offset last
  walk_dead s offset last (unit ∷ units) e = grind (arith, common_steps, walk-cons)

  -- quit: the unit and its offset are told
  pub walk_quits : (s : State) (unit offset : ℕ) (last : Option HalfMatch) (units : List ℕ)
      → is_dead_state s ≡ false → contains b.quit unit ≡ true
      → state_walk s offset last (unit ∷ units) ≡ Err (MatchError.Quit unit (unit_offset direction offset))
  walk_quits s unit offset last units e f = grind (arith, common_steps, walk-cons)

  -- on: what the step's label makes of the walk from there
  abbrev pub walk_after : (unit offset : ℕ) → Option HalfMatch → List ℕ → State → HalfAnswer
  walk_after unit offset last units next =
      let met = last_match (label_of next.label) offset last in
      at_label (label_of next.label) direction earliest unit offset (Ok met)
      (state_walk next (next_offset direction offset) met units)

  pub walk_steps : (s : State) (unit offset : ℕ) (last : Option HalfMatch) (units : List ℕ)
      → is_dead_state s ≡ false → contains b.quit unit ≡ false
      → state_walk s offset last (unit ∷ units) ≡ walk_after unit offset last units (step b.nfa b.kind s unit)
  walk_steps s unit offset last units e f = grind (arith, common_steps, walk-cons, walk_dead)

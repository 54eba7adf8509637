-- What a unit does to an overlapping search, as `Walking` says it of a half search.
use Rattle.rx_spec.proofs.Prelude.{[], arith, ◌≡◌, ℕ, true, false, if◌then◌else◌, Some, None, List, ◌∷◌, refl, ap, ◌∙◌}
use Rattle.rx_spec.proofs.Prelude.{common_steps, contains, Query, is_done, Label, label_of, Machine, IsWord, Settings}
use Rattle.rx_spec.proofs.Prelude.{StartError, start_error, start_row, State, step, Build, Node, is_dead_state, power}
use Rattle.rx_spec.proofs.Prelude.{beside, next_offset, unit_offset, match_error, Ending, OverlappingMatches, none_left}
use Rattle.rx_spec.proofs.Prelude.{with_items, at_item_label, overlapping_walk, whole_overlapping_walk, overlapping}
use Rattle.rx_spec.proofs.Prelude.{remaining}
use Rattle.rx_spec.specs.Overlapping.{Reported, overlapping_from}
use Rattle.rx_spec.specs.declared.Direction.{Direction}
use Rattle.rx_lemmas.proofs.SilentRows.{IsSilent, silent_label, silent_next}
use Rattle.rx_lemmas.proofs.Words.{IsWord-head, IsWord-tail}

module _ {R : Type 0} (m : Machine R) (direction : Direction) where
  pub overlapping-nil : (row : R) (offset : ℕ) → overlapping_walk m direction row offset [] ≡ none_left Ending.Ended
  unfolding overlapping_walk
  overlapping-nil row offset = refl

  -- how it goes on from the row to which a unit has led, and the same where dead isn't looked at
  abbrev pub overlapping_on : (unit offset : ℕ) → List ℕ → R → OverlappingMatches
  overlapping_on unit offset units next =
      at_item_label (m.label next) direction unit offset
      (if m.is_dead next then none_left Ending.Ended
      else overlapping_walk m direction next (next_offset direction offset) units)

  abbrev pub overlapping_through : (unit offset : ℕ) → List ℕ → R → OverlappingMatches
  overlapping_through unit offset units next =
      at_item_label (m.label next) direction unit offset
      (overlapping_walk m direction next (next_offset direction offset) units)

  pub overlapping-cons : (row : R) (unit offset : ℕ) (units : List ℕ)
      → overlapping_walk m direction row offset (unit ∷ units) ≡ overlapping_on unit offset units (m.next row unit)
  unfolding overlapping_walk
  overlapping-cons row unit offset units = refl

  -- a match row tells its patterns, and then what is told from there on
  pub overlapping_match : (row : R) (unit offset : ℕ) (units : List ℕ) {ks : List ℕ}
      → m.is_dead (m.next row unit) ≡ false
      → m.label (m.next row unit) ≡ Label.Matches ks
      → overlapping_walk m direction row offset (unit ∷ units)
      ≡ remaining m direction ks offset (m.next row unit) units
  overlapping_match row unit offset units alive label = overlapping-cons row unit offset units ∙ rw (label, alive) refl

  -- the call that tells a pattern leaves the others, and the last of a row leaves the walk from that row on
  pub remaining-cons : (k : ℕ) (ks : List ℕ) (offset : ℕ) (row : R) (units : List ℕ)
      → remaining m direction (k ∷ ks) offset row units
      ≡ with_items (Reported (record { pattern = k; offset = offset }) ∷ []) (remaining m direction ks offset row units)
  remaining-cons k ks offset row units = refl

  pub remaining-nil : (offset : ℕ) (row : R) (units : List ℕ)
      → remaining m direction [] offset row units
      ≡ overlapping_walk m direction row (next_offset direction offset) units
  remaining-nil offset row units = refl

  pub overlapping_passes : (unit offset : ℕ) (units : List ℕ) (next : R)
      → (m.is_dead next ≡ true
      → overlapping_walk m direction next (next_offset direction offset) units ≡ none_left Ending.Ended)
      → overlapping_on unit offset units next ≡ overlapping_through unit offset units next
  overlapping_passes unit offset units next stays = grind (arith, common_steps)

  pub overlapping_silent : (row : R) (offset : ℕ) (units : List ℕ) → IsWord units → IsSilent m row
      → overlapping_walk m direction row offset units ≡ none_left Ending.Ended
  overlapping_silent row offset [] w s = overlapping-nil row offset
  overlapping_silent row offset (unit ∷ units) w s =
      let next = m.next row unit in
      let silent = silent_next m row unit s (IsWord-head unit units w) in
      let later = overlapping_silent next (next_offset direction offset) units (IsWord-tail unit units w) silent in
      overlapping-cons row unit offset units ∙ overlapping_passes unit offset units next (λ e. later)
      ∙ ap (λ l. at_item_label l direction unit offset
      (overlapping_walk m direction next (next_offset direction offset) units)) (silent_label m next silent)
      ∙ ap (at_item_label Label.Plain direction unit offset) later

  -- a unit more, where a dead row is silent
  pub overlapping-more : (row : R) (unit offset : ℕ) (units : List ℕ) → IsWord units
      → (m.is_dead (m.next row unit) ≡ true → IsSilent m (m.next row unit))
      → overlapping_walk m direction row offset (unit ∷ units) ≡ overlapping_through unit offset units (m.next row unit)
  overlapping-more row unit offset units w silent = grind (arith, common_steps, overlapping-cons, overlapping_silent)

-- over a build's powerset machine: dead, quit, or on to a step of the state
module _ (b : Build) (direction : Direction) where
  abbrev pub state_overlapping : State → ℕ → List ℕ → OverlappingMatches
  state_overlapping s offset units = overlapping_walk (power b) direction (Node.Running s) offset units

  pub overlapping_dead : (s : State) (offset : ℕ) (units : List ℕ) → is_dead_state s ≡ true
      → state_overlapping s offset units ≡ none_left Ending.Ended
  overlapping_dead s offset [] e = overlapping-nil (power b) direction (Node.Running s) offset
  overlapping_dead s offset (unit ∷ units) e = grind (arith, common_steps, overlapping-cons)

  pub overlapping_quits : (s : State) (unit offset : ℕ) (units : List ℕ)
      → is_dead_state s ≡ false → contains b.quit unit ≡ true
      → state_overlapping s offset (unit ∷ units) ≡ none_left (Ending.Quits unit (unit_offset direction offset))
  overlapping_quits s unit offset units e f = grind (arith, common_steps, overlapping-cons)

  pub overlapping_steps : (s : State) (unit offset : ℕ) (units : List ℕ)
      → is_dead_state s ≡ false → contains b.quit unit ≡ false
      → state_overlapping s offset (unit ∷ units)
      ≡ at_item_label (label_of (step b.nfa b.kind s unit).label) direction unit offset
      (state_overlapping (step b.nfa b.kind s unit) (next_offset direction offset) units)
  overlapping_steps s unit offset units e f = grind (arith, common_steps, overlapping-cons, overlapping_dead)

-- the search: done, refused, or a walk
module _ {R : Type 0} (m : Machine R) (s : Settings) (direction : Direction) (q : Query) where
  abbrev walked : OverlappingMatches
  walked = whole_overlapping_walk m direction q (start_row m s (beside direction q) q.mode)

  pub overlapping_done : is_done q ≡ true → overlapping m s direction q ≡ none_left Ending.Ended
  overlapping_done d = rw d refl

  pub overlapping_refused : (error : StartError) → is_done q ≡ false
      → start_error s (beside direction q) q.mode ≡ Some error
      → overlapping m s direction q ≡ none_left (Ending.Refused (match_error direction q error))
  overlapping_refused error d e = rw d (ap (λ o. overlapping_from direction q o walked) e)

  pub overlapping_walks : is_done q ≡ false → start_error s (beside direction q) q.mode ≡ None
      → overlapping m s direction q ≡ whole_overlapping_walk m direction q (start_row m s (beside direction q) q.mode)
  overlapping_walks d e = rw d (ap (λ o. overlapping_from direction q o walked) e)

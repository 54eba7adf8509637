-- What a walk for the last match tells, where it is known what each state gives at each place.
use Rattle.rx_spec.proofs.Prelude.{common_steps, ◌≡◌, ℕ, zero, suc, ◌+◌, ◌≤◌, true, false, Option, None, Ok, List, []}
use Rattle.rx_spec.proofs.Prelude.{◌∷◌, ap, sym, ◌∙◌, arith, option_or, HalfMatch, MatchError, label_of, State}
use Rattle.rx_spec.proofs.Prelude.{is_dead_state, last_match, next_offset, unit_offset}
use Rattle.rx_spec.specs.declared.Direction.{Direction}
use Rattle.rx_lemmas.proofs.HalfSearches.{told_same, error_not_told}
use Rattle.rx_lemmas.proofs.ReadUnits.{unit_at, units_from, units_from-zero, units_from-suc, place_of, place_of-next}
use Rattle.rx_lemmas.proofs.Walking.{goes_on, Dead, Quits, Steps, leads, state_walk, walk-nil, walk_dead, walk_quits}
use Rattle.rx_lemmas.proofs.Walking.{walk_steps}
use Rattle.rx_meaning.proofs.Scan.{Scan, read_in, StandsAt, step_at, step_stands}

-- what a label tells at an offset
abbrev pub label_tells : List ℕ → ℕ → Option HalfMatch
label_tells label offset = last_match (label_of label) offset None

-- What each state gives, up to a last place: what the step's label tells there, unless more is given later on.
pub record Foretold (c : Scan) (direction : Direction) (size limit : ℕ) : Type 0 where
  pub tells : State → ℕ → Option HalfMatch
  pub dead : (s : State) (i : ℕ) → is_dead_state s ≡ true → tells s i ≡ None
  pub past : (s : State) → tells s (limit + 1) ≡ None
  pub steps : (s : State) (i : ℕ) → StandsAt c s i → i ≤ limit
      → tells s i
      ≡ option_or (tells (step_at c s i) (i + 1)) (label_tells (step_at c s i).label (place_of direction size i))

module _ (c : Scan) (direction : Direction) (size limit : ℕ) (f : Foretold c direction size limit) where
  -- what is given here, by what is given after a step
  stepped : (s : State) (i : ℕ) (last : Option HalfMatch) → StandsAt c s i → i ≤ limit
      → option_or (f.tells (step_at c s i) (i + 1))
      (last_match (label_of (step_at c s i).label) (place_of direction size i) last)
      ≡ option_or (f.tells s i) last
  stepped s i last at within = grind (arith, common_steps)

  -- The walk tells what the state gives where it stands, or else the last match.
  pub walk_tells : (n i : ℕ) (s : State) (last h : Option HalfMatch) → i + n ≡ limit + 1 → StandsAt c s i
      → state_walk c.build direction false s (place_of direction size i) last (units_from (read_in c) i n) ≡ Ok h
      → h ≡ option_or (f.tells s i) last
  walk_tells zero i s last h e at w =
      let offset = place_of direction size i in
      let end : limit + 1 ≡ i = omega arith in
      grind (arith, common_steps, told_same, state_walk, units_from-zero, read_in, walk-nil)
  walk_tells (suc n) i s last h e at w =
      let unit = unit_at (read_in c) i in
      let offset = place_of direction size i in
      let units = units_from (read_in c) (i + 1) n in
      let next = step_at c s i in
      let walked = ap (state_walk c.build direction false s offset last) (sym (units_from-suc (read_in c) i n)) ∙ w in
      elim (leads c.build s unit) as (λ l. h ≡ option_or (f.tells s i) last) [
        | Dead d ↦
            told_same h last (sym walked ∙ walk_dead c.build direction false s offset last (unit ∷ units) d)
            ∙ ap (λ v. option_or v last) (sym (f.dead s i d))
        | Quits d q ↦
            absurd (error_not_told (MatchError.Quit unit (unit_offset direction offset)) h
            (sym (walk_quits c.build direction false s unit offset last units d q) ∙ walked))
        | Steps d q ↦
            let kept = last_match (label_of next.label) offset last in
            let later = λ (o : ℕ). state_walk c.build direction false next o kept units in
            walk_tells n (i + 1) next kept h (omega arith) (step_stands c s i)
            (ap later (sym (place_of-next direction size i))
            ∙ sym (goes_on next.label direction unit offset (Ok kept) (later (next_offset direction offset)))
            ∙ sym (walk_steps c.build direction false s unit offset last units d q) ∙ walked)
            ∙ stepped s i last at (omega arith)
      ]

-- Where the answers of a walk come from: a match from a unit that led to its label, and a quit likewise. So a told
-- offset lies in the span.
use Rattle.rx_spec.proofs.Prelude.{[], rules, ◌≡◌, ℕ, suc, ◌+◌, ◌-◌, ◌<◌, ◌≤◌, ◌⊎◌, inl, inr, ⊎_elim, Bool, Option}
use Rattle.rx_spec.proofs.Prelude.{Some, Ok, Err, if◌then◌else◌, List, ◌∷◌, length, take, get_or, refl, ap, sym, ◌∙◌}
use Rattle.rx_spec.proofs.Prelude.{subst, arith, common_steps, same_Some, Contains, before, after, Query, HalfMatch}
use Rattle.rx_spec.proofs.Prelude.{MatchError, Label, Machine, run, Settings, StartError, start_error, start_row}
use Rattle.rx_spec.proofs.Prelude.{HalfAnswer, units_of, beside, first_offset, next_offset, unit_offset, first_match}
use Rattle.rx_spec.proofs.Prelude.{last_match, at_label, match_error, walk, half_search}
use Rattle.rx_spec.specs.declared.Direction.{Direction}
use Rattle.rx_lemmas.proofs.Firsts.{by_test}
use Rattle.rx_lemmas.proofs.HalfSearches.{begins, told_same, error_not_told}
use Rattle.rx_lemmas.proofs.Walking.{walk-nil, walk-cons}
use Rattle.rx_lemmas.proofs.Words.{run-nil, run-cons}

-- the offset after so many units
abbrev pub offset_after : Direction → ℕ → ℕ → ℕ
offset_after Direction.Forward offset n = offset + n
offset_after Direction.Reverse offset n = offset - n

pub offset_after-next : (direction : Direction) (offset n : ℕ)
    → offset_after direction (next_offset direction offset) n ≡ offset_after direction offset (suc n)
offset_after-next Direction.Forward offset n = omega arith
offset_after-next Direction.Reverse offset n = omega arith

pub offset_after-zero : (direction : Direction) (offset : ℕ) → offset ≡ offset_after direction offset 0
offset_after-zero Direction.Forward offset = omega arith
offset_after-zero Direction.Reverse offset = omega arith

-- One of the units led from a row that the units before it lead to.
pub record Came {R : Type 0} (m : Machine R) (row : R) (units : List ℕ) (Leads : R → ℕ → ℕ → Type 0) : Type 0 where
  pub place : ℕ
  pub within : place < length units
  pub leads : Leads (run m.next row (take place units)) (get_or units place 256) place

module _ {R : Type 0} (m : Machine R) (direction : Direction) where
  -- to a row with the match that is told, at the offset where it stands
  pub record LeadsToMatch (offset : ℕ) (h : HalfMatch) (from : R) (unit place : ℕ) : Type 0 where
    pub patterns : List ℕ
    pub label : m.label (m.next from unit) ≡ Label.Matches patterns
    pub told : h ≡ first_match patterns (offset_after direction offset place)

  -- to one of which the match is one of several
  pub record LeadsToItem (offset : ℕ) (h : HalfMatch) (from : R) (unit place : ℕ) : Type 0 where
    pub patterns : List ℕ
    pub label : m.label (m.next from unit) ≡ Label.Matches patterns
    pub pattern : Contains patterns h.pattern
    pub told : h.offset ≡ offset_after direction offset place

  -- or to a row that quits
  pub record LeadsToQuit (offset : ℕ) (error : MatchError) (from : R) (unit place : ℕ) : Type 0 where
    pub label : m.label (m.next from unit) ≡ Label.Quits
    pub told : error ≡ MatchError.Quit unit (unit_offset direction (offset_after direction offset place))

-- a unit more before
module _ {R : Type 0} (m : Machine R) where
  pub came_later : (row : R) (unit : ℕ) (units : List ℕ) (P Q : R → ℕ → ℕ → Type 0)
      → ((from : R) (u place : ℕ) → P from u place → Q from u (suc place))
      → Came m (m.next row unit) units P → Came m row (unit ∷ units) Q
  came_later row unit units P Q f c = record {
    place = suc c.place;
    within = (let h = c.within in omega arith);
    leads = grind (arith, common_steps, run-cons);
  }

  pub came_first : (row : R) (unit : ℕ) (units : List ℕ) (P : R → ℕ → ℕ → Type 0) → P row unit 0
      → Came m row (unit ∷ units) P
  came_first row unit units P h = grind (arith, common_steps, run-nil)

module _ {R : Type 0} (m : Machine R) (direction : Direction) (earliest : Bool) where
  -- how a label answers: with a match that is told, with a quit, or as the walk goes on
  met_or : (label : Label) (offset : ℕ) (last : Option HalfMatch) (h : HalfMatch)
      → last_match label offset last ≡ Some h
      → (last ≡ Some h) ⊎ ((ks : List ℕ) × (label ≡ Label.Matches ks) × (h ≡ first_match ks offset))
  met_or Label.Plain offset last h e = inl e
  met_or Label.Quits offset last h e = inl e
  met_or (Label.Matches ks) offset last h e = inr (ks, refl, sym (same_Some (first_match ks offset) h e))

  told_or : (label : Label) (unit offset : ℕ) (now later : HalfAnswer) (h : HalfMatch)
      → at_label label direction earliest unit offset now later ≡ Ok (Some h)
      → (now ≡ Ok (Some h)) ⊎ (later ≡ Ok (Some h))
  told_or Label.Quits unit offset now later h e = grind (arith, common_steps)
  told_or Label.Plain unit offset now later h e = inr e
  told_or (Label.Matches ks) unit offset now later h e = grind (arith, common_steps)

  quit_or : (label : Label) (unit offset : ℕ) (kept : Option HalfMatch) (later : HalfAnswer) (error : MatchError)
      → at_label label direction earliest unit offset (Ok kept) later ≡ Err error
      → ((label ≡ Label.Quits) × (error ≡ MatchError.Quit unit (unit_offset direction offset))) ⊎ (later ≡ Err error)
  quit_or Label.Quits unit offset kept later error e = grind (arith, common_steps)
  quit_or Label.Plain unit offset kept later error e = inr e
  quit_or (Label.Matches ks) unit offset kept later error e = grind (arith, common_steps)

  -- A match that is told was told before, or some unit led to it.
  pub walk_met : (units : List ℕ) (row : R) (offset : ℕ) (last : Option HalfMatch) (h : HalfMatch)
      → walk m direction earliest row offset last units ≡ Ok (Some h)
      → (last ≡ Some h) ⊎ Came m row units (LeadsToMatch m direction offset h)
  walk_met [] row offset last h w = grind (arith, common_steps, walk-nil)
  walk_met (unit ∷ units) row offset last h w =
      let next = m.next row unit in
      let met = last_match (m.label next) offset last in
      let on = walk m direction earliest next (next_offset direction offset) met units in
      let here : (met ≡ Some h) → (last ≡ Some h) ⊎ Came m row (unit ∷ units) (LeadsToMatch m direction offset h)
      = grind (arith, common_steps, first_match, came_first, offset_after-zero, met_or) in
      let later : (on ≡ Ok (Some h)) → (last ≡ Some h) ⊎ Came m row (unit ∷ units) (LeadsToMatch m direction offset h)
      = λ v. ⊎_elim here
      (λ (c : Came m next units (LeadsToMatch m direction (next_offset direction offset) h)).
      grind (arith, common_steps, came_later, next_offset, first_match, offset_after-next))
      (walk_met units next (next_offset direction offset) met h v) in
      let now = λ (e : ◌≡◌ {A = HalfAnswer} (Ok met) (Ok (Some h))). here (told_same met (Some h) e) in
      ⊎_elim now
      (λ (e : (if m.is_dead next then Ok met else on) ≡ Ok (Some h)). grind (arith, common_steps, by_test))
      (told_or (m.label next) unit offset (Ok met) (if m.is_dead next then Ok met else on) h
      (sym (walk-cons m direction earliest row unit offset last units) ∙ w))

  -- An error is a quit to which some unit led.
  pub walk_quit : (units : List ℕ) (row : R) (offset : ℕ) (last : Option HalfMatch) (error : MatchError)
      → walk m direction earliest row offset last units ≡ Err error
      → Came m row units (LeadsToQuit m direction offset error)
  walk_quit [] row offset last error w = grind (arith, common_steps, walk-nil)
  walk_quit (unit ∷ units) row offset last error w =
      let next = m.next row unit in
      let met = last_match (m.label next) offset last in
      let on = walk m direction earliest next (next_offset direction offset) met units in
      ⊎_elim
      (λ (q : (m.label next ≡ Label.Quits) × (error ≡ MatchError.Quit unit (unit_offset direction offset))).
      grind (arith, common_steps, came_first, unit_offset, offset_after-zero))
      (λ (e : (if m.is_dead next then Ok met else on) ≡ Err error).
      by_test (m.is_dead next)
      (λ d. absurd (error_not_told error met (sym (sym (ap (λ v. if v then Ok met else on) d) ∙ e))))
      (λ d. came_later m row unit units (LeadsToQuit m direction (next_offset direction offset) error)
      (LeadsToQuit m direction offset error)
      (λ from u place l. record {
        label = l.label;
        told = grind (arith, common_steps, unit_offset, offset_after-next);
      })
      (walk_quit units next (next_offset direction offset) met error (sym (ap (λ v. if v then Ok met else on) d) ∙ e))))
      (quit_or (m.label next) unit offset met (if m.is_dead next then Ok met else on) error
      (sym (walk-cons m direction earliest row unit offset last units) ∙ w))

-- ---- half searches

-- no more units than the span has bytes, and one
pub units_count : (direction : Direction) (q : Query) → length (units_of direction q) ≤ q.end - q.start + 1
units_count Direction.Forward q = grind (arith, common_steps)
units_count Direction.Reverse q = grind (arith, common_steps)

-- so the offsets where the walk stands lie in the span
pub offset_in_span : (direction : Direction) (q : Query) (place : ℕ) → q.start ≤ q.end
    → place < length (units_of direction q)
    → (q.start ≤ offset_after direction (first_offset direction q) place)
    × (offset_after direction (first_offset direction q) place ≤ q.end)
offset_in_span Direction.Forward q place order within = grind (arith, common_steps)
offset_in_span Direction.Reverse q place order within = grind (arith, common_steps)

module _ {R : Type 0} (m : Machine R) (s : Settings) (direction : Direction) (q : Query) where
  -- what some unit of the walk leads to
  abbrev pub CameIn : (R → ℕ → ℕ → Type 0) → Type 0
  CameIn Leads = Came m (start_row m s (beside direction q) q.mode) (units_of direction q) Leads

  pub half_met : (h : HalfMatch) → half_search m s direction q ≡ Ok (Some h)
      → (q.start ≤ q.end) × CameIn (LeadsToMatch m direction (first_offset direction q) h)
  half_met h e = search (rules, walk_met)

  -- Its error is that of its start, or a quit.
  pub half_error : (error : MatchError) → half_search m s direction q ≡ Err error
      → (q.start ≤ q.end)
      × (((refused : StartError) × (start_error s (beside direction q) q.mode ≡ Some refused)
      × (error ≡ match_error direction q refused))
      ⊎ CameIn (LeadsToQuit m direction (first_offset direction q) error))
  half_error error e = grind (arith, common_steps, begins, error_not_told, walk_quit)

  pub half_in_span : (h : HalfMatch) → half_search m s direction q ≡ Ok (Some h)
      → (q.start ≤ h.offset) × (h.offset ≤ q.end)
  half_in_span h e =
      let met = half_met h e in
      let c = met.1 in
      let l = c.leads in
      let lies = offset_in_span direction q c.place met.0 c.within in
      subst (λ (x : HalfMatch). (q.start ≤ x.offset) × (x.offset ≤ q.end)) (sym l.told) (at_offset l.patterns lies)
    where
      at_offset : (ks : List ℕ) {o : ℕ} → (q.start ≤ o) × (o ≤ q.end)
          → (q.start ≤ (first_match ks o).offset) × ((first_match ks o).offset ≤ q.end)
      at_offset [] h = h
      at_offset (k ∷ ks) h = h

  -- so it is never that two searches disagree
  pub half_is_no_mismatch : (end : HalfMatch) (start : Option HalfMatch)
      → half_search m s direction q ≡ Err (MatchError.PairMismatch end start) → ⊥
  half_is_no_mismatch end start e = by_cause (half_error (MatchError.PairMismatch end start) e).1
    where
      by_refused : (refused : StartError) → MatchError.PairMismatch end start ≡ match_error direction q refused → ⊥
      by_refused (StartError.Quit byte) e = cc
      by_refused (StartError.UnsupportedAnchored mode) e = cc

      not_quit : (byte offset : ℕ) → MatchError.PairMismatch end start ≡ MatchError.Quit byte offset → ⊥
      not_quit byte offset e = cc

      by_cause : (((refused : StartError) × (start_error s (beside direction q) q.mode ≡ Some refused)
          × (MatchError.PairMismatch end start ≡ match_error direction q refused))
          ⊎ CameIn (LeadsToQuit m direction (first_offset direction q) (MatchError.PairMismatch end start))) → ⊥
      by_cause (inl r) = by_refused r.0 r.2
      by_cause (inr c) = not_quit _ _ c.leads.told

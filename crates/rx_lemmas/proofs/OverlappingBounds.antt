-- Where the answers of an overlapping search come from, as `WalkBounds` says it of a half search.
use Rattle.rx_spec.proofs.Prelude.{[], arith, rules, ◌≡◌, ℕ, ◌≤◌, ◌⊎◌, inr, ⊎_elim, Bool, if◌then◌else◌, Some, List}
use Rattle.rx_spec.proofs.Prelude.{◌∷◌, ap, sym, ◌∙◌, subst, common_steps, Contains, Query, HalfMatch, MatchError}
use Rattle.rx_spec.proofs.Prelude.{Label, Machine, Settings, StartError, start_error, start_row, units_of, beside}
use Rattle.rx_spec.proofs.Prelude.{first_offset, next_offset, unit_offset, match_error, Item, Ending}
use Rattle.rx_spec.proofs.Prelude.{OverlappingMatches, none_left, pattern_items, at_item_label, overlapping_walk}
use Rattle.rx_spec.proofs.Prelude.{overlapping}
use Rattle.rx_spec.specs.declared.Direction.{Direction}
use Rattle.rx_lemmas.proofs.WalkBounds.{offset_in_span, offset_after-next, offset_after-zero, Came, came_first}
use Rattle.rx_lemmas.proofs.WalkBounds.{came_later, LeadsToItem, LeadsToQuit}
use Rattle.rx_lemmas.proofs.Firsts.{by_test, Contains-there, Contains-nil, Contains-cases}
use Rattle.rx_lemmas.proofs.HalfSearches.{Refused, begins}
use Rattle.rx_lemmas.proofs.Overlapping.{overlapping-nil, overlapping-cons}

-- a reported item is one of the patterns at the offset
of_patterns : (ks : List ℕ) (offset : ℕ) (h : HalfMatch) → Contains (pattern_items ks offset) (Item.Reported h)
    → Contains ks h.pattern × (h.offset ≡ offset)
of_patterns [] offset h c = absurd (Contains-nil (Item.Reported h) c)
of_patterns (k ∷ ks) offset h c =
    let here : HalfMatch = record { pattern = k; offset = offset } in
    ⊎_elim
    (λ (e : Item.Reported here ≡ Item.Reported h). grind (arith, common_steps))
    (λ (d : Contains (pattern_items ks offset) (Item.Reported h)).
    let later = of_patterns ks offset h d in (Contains-there k ks h.pattern later.0, later.1))
    (Contains-cases (Item.Reported here) (pattern_items ks offset) (Item.Reported h) c)
  where
    reported : (a b : HalfMatch) → Item.Reported a ≡ Item.Reported b → a ≡ b
    reported a b e = cc

module _ {R : Type 0} (m : Machine R) (direction : Direction) where
  -- an item is one of the label's, or comes later
  item_or : (label : Label) (unit offset : ℕ) (later : OverlappingMatches) (h : HalfMatch)
      → Contains (at_item_label label direction unit offset later).items (Item.Reported h)
      → ((ks : List ℕ) × (label ≡ Label.Matches ks) × Contains (pattern_items ks offset) (Item.Reported h))
      ⊎ Contains later.items (Item.Reported h)
  item_or Label.Quits unit offset later h c = absurd (Contains-nil (Item.Reported h) c)
  item_or Label.Plain unit offset later h c = inr c
  item_or (Label.Matches ks) unit offset later h c = grind (arith, common_steps)

  -- and so is where it quits
  quits_or : (label : Label) (unit offset : ℕ) (later : OverlappingMatches) (byte at : ℕ)
      → (at_item_label label direction unit offset later).ending ≡ Ending.Quits byte at
      → ((label ≡ Label.Quits) × (MatchError.Quit byte at ≡ MatchError.Quit unit (unit_offset direction offset)))
      ⊎ (later.ending ≡ Ending.Quits byte at)
  quits_or Label.Quits unit offset later byte at e = grind (arith, common_steps)
  quits_or Label.Plain unit offset later byte at e = inr e
  quits_or (Label.Matches ks) unit offset later byte at e = inr e

  -- Some unit led to each item.
  pub overlapping_met : (units : List ℕ) (row : R) (offset : ℕ) (h : HalfMatch)
      → Contains (overlapping_walk m direction row offset units).items (Item.Reported h)
      → Came m row units (LeadsToItem m direction offset h)
  overlapping_met [] row offset h c = grind (arith, common_steps, overlapping-nil)
  overlapping_met (unit ∷ units) row offset h c =
      let next = m.next row unit in
      let here = next_offset direction offset in
      let on = overlapping_walk m direction next here units in
      let rest = λ (d : Bool). if d then none_left Ending.Ended else on in
      let HasItem : OverlappingMatches → Type 0 = λ x. Contains x.items (Item.Reported h) in
      ⊎_elim
      (λ (k : (ks : List ℕ) × (m.label next ≡ Label.Matches ks) × Contains (pattern_items ks offset) (Item.Reported h)).
      let is = of_patterns k.0 offset h k.2 in
      came_first m row unit units (LeadsToItem m direction offset h) (record {
        patterns = k.0;
        label = k.1;
        pattern = is.0;
        told = is.1 ∙ offset_after-zero direction offset;
      }))
      (λ (d : HasItem (rest (m.is_dead next))).
      by_test (m.is_dead next)
      (λ e. absurd (Contains-nil (Item.Reported h) (subst (λ v. HasItem (rest v)) e d)))
      (λ e. came_later m row unit units (LeadsToItem m direction here h) (LeadsToItem m direction offset h)
      (λ from u place l. record {
        patterns = l.patterns;
        label = l.label;
        pattern = l.pattern;
        told = l.told ∙ offset_after-next direction offset place;
      })
      (overlapping_met units next here h (subst (λ v. HasItem (rest v)) e d))))
      (item_or (m.label next) unit offset (rest (m.is_dead next)) h
      (subst HasItem (overlapping-cons m direction row unit offset units) c))

  -- And some unit led to quit.
  pub overlapping_quit : (units : List ℕ) (row : R) (offset byte at : ℕ)
      → (overlapping_walk m direction row offset units).ending ≡ Ending.Quits byte at
      → Came m row units (LeadsToQuit m direction offset (MatchError.Quit byte at))
  overlapping_quit [] row offset byte at e = grind (arith, common_steps, overlapping-nil)
  overlapping_quit (unit ∷ units) row offset byte at e =
      let next = m.next row unit in
      let here = next_offset direction offset in
      let on = overlapping_walk m direction next here units in
      let rest = λ (d : Bool). if d then none_left Ending.Ended else on in
      let Quits : OverlappingMatches → Type 0 = λ x. x.ending ≡ Ending.Quits byte at in
      ⊎_elim
      (λ (q : (m.label next ≡ Label.Quits)
      × (MatchError.Quit byte at ≡ MatchError.Quit unit (unit_offset direction offset))).
      grind (arith, common_steps, came_first, unit_offset, offset_after-zero))
      (λ (d : Quits (rest (m.is_dead next))).
      by_test (m.is_dead next) (λ t. absurd (ended_not byte at (subst (λ v. Quits (rest v)) t d)))
      (λ t. came_later m row unit units (LeadsToQuit m direction here (MatchError.Quit byte at))
      (LeadsToQuit m direction offset (MatchError.Quit byte at))
      (λ from u place l. record {
        label = l.label;
        told = grind (arith, common_steps, unit_offset, offset_after-next);
      })
      (overlapping_quit units next here byte at (subst (λ v. Quits (rest v)) t d))))
      (quits_or (m.label next) unit offset (rest (m.is_dead next)) byte at
      (sym (ap (λ (x : OverlappingMatches). x.ending) (overlapping-cons m direction row unit offset units)) ∙ e))
    where
      ended_not : (byte at : ℕ) → Ending.Ended ≡ Ending.Quits byte at → ⊥
      ended_not byte at e = cc

  -- A walk isn't refused.
  not_refused : (units : List ℕ) (row : R) (offset : ℕ) (error : MatchError)
      → (overlapping_walk m direction row offset units).ending ≡ Ending.Refused error → ⊥
  not_refused [] row offset error e = grind (arith, common_steps, overlapping-nil)
  not_refused (unit ∷ units) row offset error e =
      let next = m.next row unit in
      let on = overlapping_walk m direction next (next_offset direction offset) units in
      let rest = λ (d : Bool). if d then none_left Ending.Ended else on in
      by_label (m.label next) (rest (m.is_dead next))
      (by_test (m.is_dead next)
      (λ d f. ended_not (sym (ap (λ v. (rest v).ending) d) ∙ f))
      (λ d f. not_refused units next (next_offset direction offset) error (sym (ap (λ v. (rest v).ending) d) ∙ f)))
      (sym (ap (λ (x : OverlappingMatches). x.ending) (overlapping-cons m direction row unit offset units)) ∙ e)
    where
      ended_not : Ending.Ended ≡ Ending.Refused error → ⊥
      ended_not e = cc

      by_label : (label : Label) (later : OverlappingMatches) → (later.ending ≡ Ending.Refused error → ⊥)
          → (at_item_label label direction unit offset later).ending ≡ Ending.Refused error → ⊥
      by_label Label.Quits later other e = cc
      by_label Label.Plain later other e = other e
      by_label (Label.Matches ks) later other e = other e

-- ---- the search

module _ {R : Type 0} (m : Machine R) (s : Settings) (direction : Direction) (q : Query) where
  abbrev CameIn : (R → ℕ → ℕ → Type 0) → Type 0
  CameIn Leads = Came m (start_row m s (beside direction q) q.mode) (units_of direction q) Leads

  abbrev HasItem : HalfMatch → OverlappingMatches → Type 0
  HasItem h x = Contains x.items (Item.Reported h)

  pub search_met : (h : HalfMatch) → Contains (overlapping m s direction q).items (Item.Reported h)
      → (q.start ≤ q.end)
      × Came m (start_row m s (beside direction q) q.mode) (units_of direction q)
      (LeadsToItem m direction (first_offset direction q) h)
  search_met h c = grind (arith, common_steps, begins, overlapping_met)

  pub overlapping_in_span : (h : HalfMatch) → Contains (overlapping m s direction q).items (Item.Reported h)
      → (q.start ≤ h.offset) × (h.offset ≤ q.end)
  overlapping_in_span h c =
      let met = search_met h c in
      let told = met.1.leads.told in
      subst (λ o. (q.start ≤ o) × (o ≤ q.end)) (sym told)
      (offset_in_span direction q met.1.place met.0 met.1.within)

  -- how it ends with an error: a start that is refused, or a quit
  pub search_quit : (byte at : ℕ) → (overlapping m s direction q).ending ≡ Ending.Quits byte at
      → (q.start ≤ q.end)
      × Came m (start_row m s (beside direction q) q.mode) (units_of direction q)
      (LeadsToQuit m direction (first_offset direction q) (MatchError.Quit byte at))
  search_quit byte at e = grind (arith, common_steps, begins, overlapping_quit)

  pub search_refused : (error : MatchError) → (overlapping m s direction q).ending ≡ Ending.Refused error
      → (q.start ≤ q.end)
      × ((refused : StartError) × (start_error s (beside direction q) q.mode ≡ Some refused)
      × (error ≡ match_error direction q refused))
  search_refused error e = search (rules, begins, not_refused)

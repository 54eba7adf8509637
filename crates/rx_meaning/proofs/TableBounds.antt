-- Where the answers of searches over sound tables lie.
use Rattle.rx_spec.proofs.Prelude.{common_steps, ◌≡◌, ◌≢◌, ℕ, zero, suc, ◌+◌, ◌-◌, ◌<◌, ◌≤◌, ◌⊎◌, inl, inr, ⊎_elim}
use Rattle.rx_spec.proofs.Prelude.{true, Option, Some, None, Ok, Err, List, [], ◌∷◌, length, take, get_or, refl, ap}
use Rattle.rx_spec.proofs.Prelude.{sym, ◌∙◌, subst, arith, none-some, Contains-get_or, Contains, AreBytes, contains}
use Rattle.rx_spec.proofs.Prelude.{unit_of, before, Anchored, Query, IsFit, HalfMatch, MatchError, reading, Label}
use Rattle.rx_spec.proofs.Prelude.{Settings, run, StartError, mode_error, start_error, start_context, start_row, Table}
use Rattle.rx_spec.proofs.Prelude.{IsTable, IsSound, units_of, beside, first_offset, unit_offset, first_match}
use Rattle.rx_spec.proofs.Prelude.{match_error, half_search, Item, Ending, overlapping}
use Rattle.rx_spec.specs.HalfSearches.{beside_offset}
use Rattle.rx_spec.specs.declared.Direction.{Direction}
use Rattle.rx_lemmas.proofs.WalkBounds.{offset_after, Came, LeadsToQuit, units_count, offset_in_span, half_met}
use Rattle.rx_lemmas.proofs.WalkBounds.{half_error}
use Rattle.rx_lemmas.proofs.Firsts.{Contains-here}
use Rattle.rx_lemmas.proofs.OverlappingBounds.{search_met, search_quit, search_refused}
use Rattle.rx_lemmas.proofs.ReadUnits.{unit_at, get_or-units_from, units_read, place_of, first_place, next_byte}
use Rattle.rx_lemmas.proofs.ReadUnits.{next_at_place, units_word}
use Rattle.rx_lemmas.proofs.SilentRows.{IsRow}
use Rattle.rx_lemmas.proofs.Words.{IsWord-take, run-within}
use Rattle.rx_meaning.specs.Bounds.{IsInBounds, HalfInBounds, OverlappingInBounds, IsNamed, Quitting, HalfQuits}
use Rattle.rx_meaning.specs.Bounds.{OverlappingQuits, row_after, read_before}

-- ---- what is told

module _ (t : Table) (sound : IsSound t) (direction : Direction) (q : Query) (bytes : AreBytes q.haystack) where
  abbrev is : IsTable t
  is = sound.is_table

  -- what led to an answer was a row, and a unit
  came_from : (start place : ℕ) → start < t.size → place < length (units_of direction q)
      → (run t.machine.next start (take place (units_of direction q)) < t.size)
      × (get_or (units_of direction q) place 256 < 257)
  came_from start place inside within =
      let word = units_word direction q bytes in (
        run-within t.machine.next (IsRow t) (λ row unit h u. is.nexts row unit h u) start
            (take place (units_of direction q)) inside (IsWord-take place (units_of direction q) word),
        word (get_or (units_of direction q) place 256) (Contains-get_or (units_of direction q) place 256 within),
      )

  told_in_bounds : (h : HalfMatch) → half_search t.machine t.settings direction q ≡ Ok (Some h)
      → IsInBounds q t.pattern_len h
  told_in_bounds h e =
      let met = half_met t.machine t.settings direction q h e in
      let c = met.1 in
      let l = c.leads in
      let from = came_from _ c.place (is.entries q.mode _) c.within in
      let row = is.nexts _ _ from.0 from.1 in
      let lies = offset_in_span direction q c.place met.0 c.within in
      subst (IsInBounds q t.pattern_len) (sym l.told) (of_patterns l.patterns _ row l.label lies)
    where
      of_patterns : (ks : List ℕ) (row : ℕ) {o : ℕ} → row < t.size → t.machine.label row ≡ Label.Matches ks
          → (q.start ≤ o) × (o ≤ q.end) → IsInBounds q t.pattern_len (first_match ks o)
      of_patterns [] row h e lies = absurd (is.lists row h e)
      of_patterns (k ∷ ks) row h e lies = record {
        low = lies.0;
        high = lies.1;
        pattern = sound.patterns row (k ∷ ks) k h e (Contains-here k ks);
      }

  item_in_bounds : (h : HalfMatch) → Contains (overlapping t.machine t.settings direction q).items (Item.Reported h)
      → IsInBounds q t.pattern_len h
  item_in_bounds h e =
      let met = search_met t.machine t.settings direction q h e in
      let c = met.1 in
      let l = c.leads in
      let from = came_from _ c.place (is.entries q.mode _) c.within in
      let row = is.nexts _ _ from.0 from.1 in
      let lies = offset_in_span direction q c.place met.0 c.within in
      record {
        low = subst (λ o. q.start ≤ o) (sym l.told) lies.0;
        high = subst (λ o. o ≤ q.end) (sym l.told) lies.1;
        pattern = sound.patterns _ l.patterns h.pattern row l.label l.pattern;
      }

pub half_in_bounds : HalfInBounds
half_in_bounds t sound direction q h bytes e = told_in_bounds t sound direction q bytes h e

pub overlapping_in_bounds : OverlappingInBounds
overlapping_in_bounds t sound direction q h bytes e = item_in_bounds t sound direction q bytes h e

-- ---- where it quits

mode_quits_not : (s : Settings) (mode : Anchored) (byte : ℕ) → mode_error s mode ≡ Some (StartError.Quit byte) → ⊥
mode_quits_not s mode byte e = grind (arith, common_steps)

start_quits : (s : Settings) (neighbour : Option ℕ) (mode : Anchored) (byte : ℕ)
    → start_error s neighbour mode ≡ Some (StartError.Quit byte)
    → (neighbour ≡ Some byte) × (contains s.quit byte ≡ true)
start_quits s None mode byte e = absurd (mode_quits_not s mode byte e)
start_quits s (Some b) mode byte e = grind (arith, common_steps)

-- the byte beside the span, and one that is read next at an offset of it
beside_named : (direction : Direction) (q : Query) (byte : ℕ) → q.start ≤ q.end → beside direction q ≡ Some byte
    → IsNamed q byte (beside_offset direction q)
beside_named Direction.Forward q byte order e = grind (arith, common_steps)
beside_named Direction.Reverse q byte order e = record { low = omega arith; high = omega arith; there = e }

next_named : (direction : Direction) (q : Query) (byte offset : ℕ) → (q.start ≤ offset) × (offset ≤ q.end)
    → next_byte direction q.haystack offset ≡ Some byte → IsNamed q byte (unit_offset direction offset)
next_named Direction.Forward q byte offset lies e = record { low = omega arith; high = lies.1; there = e }
next_named Direction.Reverse q byte zero lies e = absurd (none-some byte e)
next_named Direction.Reverse q byte (suc i) lies e = grind (arith, common_steps)

-- a unit that is read, by the place of the walk
unit_is : (direction : Direction) (q : Query) (place : ℕ) → q.start ≤ q.end → q.end ≤ length q.haystack
    → place < length (units_of direction q)
    → get_or (units_of direction q) place 256
    ≡ unit_of (next_byte direction q.haystack (offset_after direction (first_offset direction q) place))
unit_is direction q place order inside within =
    let r = reading direction 0 q.haystack in
    let n = suc (q.end - q.start) in
    let few = units_count direction q in
    let lies = offset_in_span direction q place order within in
    let o = offset_after direction (first_offset direction q) place in
    ap (λ us. get_or us place 256) (units_read direction 0 q order inside)
    ∙ get_or-units_from r (first_place direction q) n place 256 (omega arith)
    ∙ ap (unit_at r) (sym (place_is direction q place order inside (omega arith)))
    ∙ ap unit_of (next_at_place direction q.haystack o (omega arith))
  where
    place_is : (direction : Direction) (q : Query) (place : ℕ) → q.start ≤ q.end → q.end ≤ length q.haystack
        → place < suc (q.end - q.start)
        → place_of direction (length q.haystack) (offset_after direction (first_offset direction q) place)
        ≡ first_place direction q + place
    place_is Direction.Forward q place order inside h = refl
    place_is Direction.Reverse q place order inside h = omega arith

-- how many units are read before a byte, by where the walk stands
read_before_is : (direction : Direction) (q : Query) (place byte : ℕ)
    → next_byte direction q.haystack (offset_after direction (first_offset direction q) place) ≡ Some byte
    → read_before direction q (unit_offset direction (offset_after direction (first_offset direction q) place)) ≡ place
read_before_is Direction.Forward q place byte there = omega arith
read_before_is Direction.Reverse q place byte there = grind (arith, common_steps)

module _ (t : Table) (sound : IsSound t) (direction : Direction) (q : Query) (bytes : AreBytes q.haystack)
    (fit : IsFit q) where
  abbrev table : IsTable t
  table = sound.is_table

  abbrev start : ℕ
  start = start_row t.machine t.settings (beside direction q) q.mode

  -- a quit in the walk
  walk_named : (byte offset : ℕ) → q.start ≤ q.end
      → Came t.machine start (units_of direction q)
      (LeadsToQuit t.machine direction (first_offset direction q) (MatchError.Quit byte offset))
      → IsNamed q byte offset × Quitting t direction q byte offset
  walk_named byte offset order c =
      let inside = table.entries q.mode (start_context t.settings (beside direction q)) in
      let l = c.leads in
      let from = came_from t sound direction q bytes start c.place inside c.within in
      let o = offset_after direction (first_offset direction q) c.place in
      let unit = get_or (units_of direction q) c.place 256 in
      let row = run t.machine.next start (take c.place (units_of direction q)) in
      let to_quit : t.machine.next row unit ≡ 1
      = table.quit_only (t.machine.next row unit) (table.nexts row unit from.0 from.1) l.label in
      let not_end : unit ≢ 256
      = λ e. sound.eoi_goes_on row from.0 (ap (t.machine.next row) (sym e) ∙ to_quit) in
      let there = a_byte (next_byte direction q.haystack o) unit not_end
      (unit_is direction q c.place order fit.within c.within) in
      let same = quit_parts byte unit offset (unit_offset direction o) l.told in
      let there_row = ap (λ n. t.machine.next (row_after t direction q n) unit)
      (read_before_is direction q c.place unit there) ∙ to_quit in
      subst (λ b. IsNamed q b offset × Quitting t direction q b offset) (sym same.0)
      (subst (λ o. IsNamed q unit o × Quitting t direction q unit o) (sym same.1)
      (next_named direction q unit o (offset_in_span direction q c.place order c.within) there, inr there_row))
    where
      quit_parts : (a b x y : ℕ) → MatchError.Quit a x ≡ MatchError.Quit b y → (a ≡ b) × (x ≡ y)
      quit_parts a b x y e = (cc, cc)

      a_byte : (byte : Option ℕ) (unit : ℕ) → unit ≢ 256 → unit ≡ unit_of byte → byte ≡ Some unit
      a_byte None unit not_end e = absurd (not_end e)
      a_byte (Some b) unit not_end e = ap (λ x. Some x) (sym e)

  -- a start that is refused
  start_named : (refused : StartError) (byte offset : ℕ) → q.start ≤ q.end
      → start_error t.settings (beside direction q) q.mode ≡ Some refused
      → MatchError.Quit byte offset ≡ match_error direction q refused
      → IsNamed q byte offset × Quitting t direction q byte offset
  start_named (StartError.Quit b) byte offset order is e =
      let parts = start_quits t.settings (beside direction q) q.mode b is in
      let named = beside_named direction q b order parts.0 in
      grind (arith, common_steps)
  start_named (StartError.UnsupportedAnchored mode) byte offset order is e = absurd (cc)

  quit_named : (byte offset : ℕ) → half_search t.machine t.settings direction q ≡ Err (MatchError.Quit byte offset)
      → IsNamed q byte offset × Quitting t direction q byte offset
  quit_named byte offset e =
      let cause = half_error t.machine t.settings direction q (MatchError.Quit byte offset) e in
      ⊎_elim
      (λ (r : (refused : StartError) × (start_error t.settings (beside direction q) q.mode ≡ Some refused)
      × (MatchError.Quit byte offset ≡ match_error direction q refused)).
      start_named r.0 byte offset cause.0 r.1 r.2)
      (λ c. walk_named byte offset cause.0 c)
      cause.1

  overlapping_named : (byte offset : ℕ)
      → let ending = (overlapping t.machine t.settings direction q).ending in
      (ending ≡ Ending.Quits byte offset) ⊎ (ending ≡ Ending.Refused (MatchError.Quit byte offset))
      → IsNamed q byte offset × Quitting t direction q byte offset
  overlapping_named byte offset (inl e) =
      let met = search_quit t.machine t.settings direction q byte offset e in
      walk_named byte offset met.0 met.1
  overlapping_named byte offset (inr e) =
      let r = search_refused t.machine t.settings direction q (MatchError.Quit byte offset) e in
      start_named r.1.0 byte offset r.0 r.1.1 r.1.2

pub half_quits : HalfQuits
half_quits t sound direction q byte offset fit bytes e = quit_named t sound direction q bytes fit byte offset e

pub overlapping_quits : OverlappingQuits
overlapping_quits t sound direction q byte offset fit bytes e =
    overlapping_named t sound direction q bytes fit byte offset e

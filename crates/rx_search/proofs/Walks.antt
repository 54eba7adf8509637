-- What is left of a span, unit by unit, and the next stop of a walk over it.
use Rattle.rx_spec.proofs.Prelude.{rules, ◌≡◌, ◌≢◌, ℕ, suc, zero, ◌+◌, ◌<◌, ◌≤◌, ◌==◌, Bool, true, false, if◌then◌else◌}
use Rattle.rx_spec.proofs.Prelude.{List, [], ◌∷◌, length, drop, get_or, refl, ap, sym, ◌∙◌, subst, arith, common_steps}
use Rattle.rx_spec.proofs.Prelude.{eqb-true, false_from_ne_true, get_or_default, Contains, not, range_with_len}
use Rattle.rx_spec.proofs.Prelude.{AreBytes, Query, Label, Machine, units_of, first_offset, next_offset, unit_offset}
use Rattle.rx_spec.proofs.Prelude.{narrower, Table, is_match, leaving}
use Rattle.rx_spec.specs.declared.Direction.{Direction}
use Rattle.rx_lemmas.proofs.Filters.{filter_within, range_within}
use Rattle.rx_lemmas.proofs.Firsts.{by_test, seen_if, Contains-here}
use Rattle.rx_lemmas.proofs.ReadUnits.{units_of-more}
use Rattle.rx_lemmas.proofs.Tables.{leaving_exactly}
use Rattle.rx_search.specs.Labels.{is_quit}
use Rattle.rx_search.specs.Needles.{byte_ahead, offset_after, is_read, Skips}
use Rattle.rx_search.specs.Walks.{IsInSpan, last_offset, bytes_left, rest, units_left, units_after, unit_ahead, Stop}
use Rattle.rx_search.specs.Walks.{at_stop_label, next_stop}
use Rattle.rx_search.proofs.Standing.{Standing, match_label, quit_label, plain_label}

-- bytes, as they are known of a slice
pub bytes_of : (hay hay' : List ℕ) → hay ≡ hay' → ((k : ℕ) → get_or hay k 0 < 256) → AreBytes hay'
bytes_of hay hay' same each = subst AreBytes same (λ k d h. subst (λ b. b < 256) (get_or_default hay k 0 d h) (each k))

-- ---- units that are left

pub rest_first : (direction : Direction) (q : Query) (offset : ℕ)
    → first_offset direction (rest direction q offset) ≡ offset
rest_first Direction.Forward q offset = refl
rest_first Direction.Reverse q offset = refl

rest_next : (direction : Direction) (q : Query) (offset : ℕ)
    → narrower direction (rest direction q offset) ≡ rest direction q (next_offset direction offset)
rest_next Direction.Forward q offset = refl
rest_next Direction.Reverse q offset = refl

pub rest_whole : (direction : Direction) (q : Query) → rest direction q (first_offset direction q) ≡ q
rest_whole Direction.Forward q = refl
rest_whole Direction.Reverse q = refl

pub bytes_on : (direction : Direction) (q : Query) (from : ℕ) → AreBytes q.haystack
    → AreBytes (rest direction q from).haystack
bytes_on Direction.Forward q from bytes = bytes
bytes_on Direction.Reverse q from bytes = bytes

rest_haystack : (direction : Direction) (q : Query) (offset : ℕ) → (rest direction q offset).haystack ≡ q.haystack
rest_haystack Direction.Forward q offset = refl
rest_haystack Direction.Reverse q offset = refl

-- An offset of a span that fits.
pub record Place (q : Query) (offset : ℕ) : Type 0 where
  pub fits : q.end ≤ length q.haystack
  pub in_span : IsInSpan q offset

module _ (direction : Direction) {q : Query} {offset : ℕ} (p : Place q offset) where
  -- where a byte of the span is left
  more_left : offset ≢ last_offset direction q
      → ((rest direction q offset).start < (rest direction q offset).end)
      × ((rest direction q offset).end ≤ length (rest direction q offset).haystack)
  more_left ne = grind (arith, common_steps)

  pub units_left-more : offset ≢ last_offset direction q
      → units_left direction q offset
      ≡ byte_ahead direction q.haystack offset ∷ units_left direction q (next_offset direction offset)
  units_left-more ne =
      let more = more_left ne in
      units_of-more direction (rest direction q offset) 0 more.0 more.1
      ∙ ap (λ (p : Query). get_or (rest direction q offset).haystack
      (unit_offset direction (first_offset direction (rest direction q offset))) 0 ∷ units_of direction p)
      (rest_next direction q offset)
      ∙ ap (λ (hay : List ℕ). get_or hay (unit_offset direction (first_offset direction (rest direction q offset))) 0
      ∷ units_left direction q (next_offset direction offset)) (rest_haystack direction q offset)
      ∙ ap (λ (o : ℕ). get_or q.haystack (unit_offset direction o) 0
      ∷ units_left direction q (next_offset direction offset))
      (rest_first direction q offset)

  pub next_place : offset ≢ last_offset direction q → Place q (next_offset direction offset)
  next_place ne = grind (arith, common_steps)

  pub next_left : offset ≢ last_offset direction q
      → bytes_left direction q (next_offset direction offset) + 1 ≡ bytes_left direction q offset
  next_left ne = grind (arith, common_steps)

  pub within_haystack : offset ≢ last_offset direction q → unit_offset direction offset < length q.haystack
  within_haystack ne = grind (arith, common_steps)

  pub byte_there : AreBytes q.haystack → offset ≢ last_offset direction q → byte_ahead direction q.haystack offset < 256
  byte_there bytes ne = bytes (unit_offset direction offset) 0 (within_haystack ne)

-- the last unit, past the span
pub units_left-last : (direction : Direction) (q : Query) → q.start ≤ q.end → q.end ≤ length q.haystack
    → units_left direction q (last_offset direction q) ≡ unit_ahead direction q.haystack (last_offset direction q) ∷ []
units_left-last Direction.Forward q order fits = grind (arith, common_steps)
units_left-last Direction.Reverse q order fits = grind (arith, common_steps)

-- ---- quiet rows

-- a row at which a walk goes on and tells nothing
pub record IsQuiet (t : Table) (row : ℕ) : Type 0 where
  pub plain : t.machine.label row ≡ Label.Plain
  pub alive : t.machine.is_dead row ≡ false

module _ {t : Table} {row : ℕ} (s : Standing t row) where
  pub quiet : is_match t row ≡ false → is_quit t row ≡ false → (row == 0) ≡ false → IsQuiet t row
  quiet no_match no_quit not_dead = grind (arith, common_steps, plain_label)

  -- a row that isn't special is quiet
  pub ordinary : t.is_special row ≡ false → IsQuiet t row
  ordinary e = search (rules, quiet)

  -- nor has it needles
  pub unaccelerated : t.is_special row ≡ false → t.is_accelerated row ≡ false
  unaccelerated e = search rules

  -- a row from which a byte may be skipped is accelerated, and so it isn't dead
  unread_accelerated : (byte : ℕ) → is_read t row byte ≡ false → t.is_accelerated row ≡ true
  unread_accelerated byte unread = search rules

  pub unread_alive : (byte : ℕ) → is_read t row byte ≡ false → t.machine.is_dead row ≡ false
  unread_alive byte unread =
      s.sound.is_table.dead_only row s.below
      ∙ false_from_ne_true (row == 0) (λ dead. by_needles (leaving t row) refl (eqb-true row 0 dead))
    where
      accelerated : t.is_accelerated row ≡ true
      accelerated = unread_accelerated byte unread

      by_needles : (needles : List ℕ) → leaving t row ≡ needles → row ≡ 0 → ⊥
      by_needles [] e none =
          let n = ap length (s.sound.needles row s.below accelerated ∙ e) in
          omega (arith, s.sound.some_needle row s.below accelerated)
      by_needles (b ∷ more) e none =
          let c = subst (λ (ns : List ℕ). Contains ns b) (sym e) (Contains-here b more) in
          let test = λ (u : ℕ). not (t.machine.next row u == row) in
          let below = (range_within 0 256 b (filter_within test (range_with_len 0 256) b c)).1 in
          let stays = subst (λ (r : ℕ). t.machine.next r b ≡ r) (sym none)
          (s.sound.is_table.dead_stays b (omega arith)) in
          (leaving_exactly t row b (omega arith)).0 c stays

  -- a byte that may be skipped leads back to the row
  pub loops : (byte : ℕ) → byte < 256 → is_read t row byte ≡ false → t.machine.next row byte ≡ row
  loops byte below unread = search (rules, by_test, eqb-true, seen_if, leaving_exactly)

  -- nor does such a row quit, so it is quiet if it isn't a match row
  pub unread_quiet : (byte : ℕ) → byte < 256 → is_match t row ≡ false → is_read t row byte ≡ false → IsQuiet t row
  unread_quiet byte below no_match unread = record {
    plain = plain_label (t.machine.label row) no_match (false_from_ne_true (is_quit t row) stays_at_quit);
    alive = unread_alive byte unread;
  }
    where
      stays_at_quit : is_quit t row ≡ true → ⊥
      stays_at_quit quits =
          let one = s.sound.is_table.quit_only row s.below (quit_label (t.machine.label row) quits) in
          let ends : t.machine.next row byte ≡ 0
          = ap (λ (r : ℕ). t.machine.next r byte) one ∙ s.sound.is_table.quit_ends byte (omega arith) in
          omega (arith, loops byte below unread)

-- ---- the next stop

pub stop-nil : (m : Machine ℕ) (direction : Direction) (row offset : ℕ)
    → next_stop m direction row offset [] ≡ Stop.Ended
unfolding next_stop
stop-nil m direction row offset = refl

pub stop-cons : (m : Machine ℕ) (direction : Direction) (row unit offset : ℕ) (units : List ℕ)
    → next_stop m direction row offset (unit ∷ units)
    ≡ at_stop_label (m.label (m.next row unit)) direction (m.next row unit) unit offset units
    (if m.is_dead (m.next row unit) then Stop.Ended
    else next_stop m direction (m.next row unit) (next_offset direction offset) units)
unfolding next_stop
stop-cons m direction row unit offset units = refl

-- A unit led from a row to another.
pub record Turn (t : Table) (row unit next : ℕ) : Type 0 where
  pub leads : next ≡ t.machine.next row unit
  pub standing : Standing t next

module _ {t : Table} {row unit next : ℕ} (turn : Turn t row unit next) (direction : Direction) (offset : ℕ)
    (units : List ℕ) where
  abbrev on_stop : Label → Bool → Stop
  on_stop label dead =
      at_stop_label label direction next unit offset units
      (if dead then Stop.Ended else next_stop t.machine direction next (next_offset direction offset) units)

  stop_on : {label : Label} {dead : Bool} → t.machine.label next ≡ label → t.machine.is_dead next ≡ dead
      → next_stop t.machine direction row offset (unit ∷ units) ≡ on_stop label dead
  stop_on {label} {dead} e f = grind (arith, common_steps, stop-cons)

  pub stop_quiet : IsQuiet t next
      → next_stop t.machine direction row offset (unit ∷ units)
      ≡ next_stop t.machine direction next (next_offset direction offset) units
  stop_quiet is = stop_on is.plain is.alive

  pub stop_match : is_match t next ≡ true
      → next_stop t.machine direction row offset (unit ∷ units) ≡ Stop.Match next offset units
  stop_match is = stop_on (match_label (t.machine.label next) is) refl

  pub stop_quits : is_quit t next ≡ true
      → next_stop t.machine direction row offset (unit ∷ units) ≡ Stop.Quits unit (unit_offset direction offset)
  stop_quits is = stop_on (quit_label (t.machine.label next) is) refl

  pub stop_ends : is_match t next ≡ false → is_quit t next ≡ false → (next == 0) ≡ true
      → next_stop t.machine direction row offset (unit ∷ units) ≡ Stop.Ended
  stop_ends no_match no_quit dead =
      stop_on (plain_label (t.machine.label next) no_match no_quit)
      (turn.standing.sound.is_table.dead_only next turn.standing.below ∙ dead)

-- ---- skips

pub offset_after-zero : (direction : Direction) (offset : ℕ) → offset ≡ offset_after direction offset 0
offset_after-zero Direction.Forward offset = omega arith
offset_after-zero Direction.Reverse offset = omega arith

offset_after-suc : (direction : Direction) (offset n : ℕ)
    → offset_after direction (next_offset direction offset) n ≡ offset_after direction offset (suc n)
offset_after-suc Direction.Forward offset n = omega arith
offset_after-suc Direction.Reverse offset n = omega arith

pub none_left : (direction : Direction) (q : Query) → bytes_left direction q (last_offset direction q) ≡ 0
none_left Direction.Forward q = omega arith
none_left Direction.Reverse q = omega arith

-- What each byte that may be skipped keeps, a skip keeps.
module _ (t : Table) (row : ℕ) (direction : Direction) (q : Query) {X : Type 0} (W : ℕ → X)
    (keeps : (o : ℕ) → Place q o → o ≢ last_offset direction q
    → is_read t row (byte_ahead direction q.haystack o) ≡ false
    → W o ≡ W (next_offset direction o)) where
  kept : (n from : ℕ) → Place q from → n ≤ bytes_left direction q from
      → ((k : ℕ) → k < n → is_read t row (byte_ahead direction q.haystack (offset_after direction from k)) ≡ false)
      → W from ≡ W (offset_after direction from n)
  kept zero from p enough skipped = ap W (offset_after-zero direction from)
  kept (suc n) from p enough skipped =
      let ne : from ≢ last_offset direction q
      = λ e. let none = ap (bytes_left direction q) e ∙ none_left direction q in omega arith in
      let first = ap (λ o. is_read t row (byte_ahead direction q.haystack o)) (offset_after-zero direction from)
      ∙ skipped 0 (omega arith) in
      let left = next_left direction p ne in
      keeps from p ne first
      ∙ kept n (next_offset direction from) (next_place direction p ne) (omega arith)
      (λ k h. ap (λ o. is_read t row (byte_ahead direction q.haystack o)) (offset_after-suc direction from k)
      ∙ skipped (suc k) (omega arith))
      ∙ ap W (offset_after-suc direction from n)

  pub skip_keeps : {from to : ℕ} → Place q from → Skips t direction q row from to → W from ≡ W to
  skip_keeps {from} p s = kept s.count from p s.enough s.skipped ∙ ap W (sym s.there)

pub skip_left : {t : Table} {row : ℕ} (direction : Direction) (q : Query) {from to : ℕ}
    → Skips t direction q row from to
    → bytes_left direction q to ≤ bytes_left direction q from
skip_left direction q {from} {to} s = grind (arith, common_steps)

pub skip_stops : {t : Table} {row : ℕ} (direction : Direction) (q : Query) → Standing t row
    → t.machine.label row ≡ Label.Plain → AreBytes q.haystack → {from to : ℕ} → Place q from
    → Skips t direction q row from to
    → next_stop t.machine direction row from (units_left direction q from)
    ≡ next_stop t.machine direction row to (units_left direction q to)
skip_stops {t} {row} direction q s plain bytes p skips =
    skip_keeps t row direction q (λ o. next_stop t.machine direction row o (units_left direction q o))
    (λ o place ne unread.
    let byte = byte_ahead direction q.haystack o in
    let later = units_left direction q (next_offset direction o) in
    let turn : Turn t row byte row
    = record { leads = sym (loops s byte (byte_there direction place bytes ne) unread); standing = s } in
    ap (next_stop t.machine direction row o) (units_left-more direction place ne)
    ∙ stop_quiet turn direction o later (record { plain = plain; alive = unread_alive s byte unread }))
    p skips

-- ---- turns of a search

-- A byte of the span led from a row to another.
pub record Step (t : Table) (direction : Direction) (q : Query) (row offset next : ℕ) : Type 0 where
  pub place : Place q offset
  pub more : offset ≢ last_offset direction q
  pub turn : Turn t row (byte_ahead direction q.haystack offset) next

module _ {t : Table} {direction : Direction} {q : Query} {row offset next : ℕ}
    (s : Step t direction q row offset next) where
  abbrev later : List ℕ
  later = units_left direction q (next_offset direction offset)

  pub step_units : units_left direction q offset
      ≡ byte_ahead direction q.haystack offset ∷ units_left direction q (next_offset direction offset)
  step_units = units_left-more direction s.place s.more

  -- what is left after it
  pub step_after : units_after direction q offset ≡ units_left direction q (next_offset direction offset)
  step_after = ap (drop 1) step_units

  step_on : next_stop t.machine direction row offset (units_left direction q offset)
      ≡ next_stop t.machine direction row offset (byte_ahead direction q.haystack offset ∷ later)
  step_on = ap (next_stop t.machine direction row offset) step_units

  pub step_quiet : IsQuiet t next
      → next_stop t.machine direction row offset (units_left direction q offset)
      ≡ next_stop t.machine direction next (next_offset direction offset)
      (units_left direction q (next_offset direction offset))
  step_quiet is = step_on ∙ stop_quiet s.turn direction offset later is

  pub step_match : is_match t next ≡ true
      → next_stop t.machine direction row offset (units_left direction q offset)
      ≡ Stop.Match next offset (units_after direction q offset)
  step_match is = grind (arith, common_steps, step_on, stop_match, step_after)

  pub step_quits : is_quit t next ≡ true
      → next_stop t.machine direction row offset (units_left direction q offset)
      ≡ Stop.Quits (byte_ahead direction q.haystack offset) (unit_offset direction offset)
  step_quits is = step_on ∙ stop_quits s.turn direction offset later is

  pub step_ends : is_match t next ≡ false → is_quit t next ≡ false → (next == 0) ≡ true
      → next_stop t.machine direction row offset (units_left direction q offset) ≡ Stop.Ended
  step_ends no_match no_quit dead = step_on ∙ stop_ends s.turn direction offset later no_match no_quit dead

-- The unit past the span led from a row to another.
pub record LastStep (t : Table) (direction : Direction) (q : Query) (row unit next : ℕ) : Type 0 where
  pub order : q.start ≤ q.end
  pub fits : q.end ≤ length q.haystack
  pub unit_is : unit ≡ unit_ahead direction q.haystack (last_offset direction q)
  pub turn : Turn t row unit next

module _ {t : Table} {direction : Direction} {q : Query} {row unit next : ℕ}
    (s : LastStep t direction q row unit next) where
  abbrev last : ℕ
  last = last_offset direction q

  pub last_units : units_left direction q (last_offset direction q) ≡ unit ∷ []
  last_units = units_left-last direction q s.order s.fits ∙ ap (λ (u : ℕ). u ∷ []) (sym s.unit_is)

  last_on : next_stop t.machine direction row last (units_left direction q last)
      ≡ next_stop t.machine direction row last (unit ∷ [])
  last_on = ap (next_stop t.machine direction row last) last_units

  pub last_match : is_match t next ≡ true
      → next_stop t.machine direction row (last_offset direction q) (units_left direction q (last_offset direction q))
      ≡ Stop.Match next (last_offset direction q) (units_after direction q (last_offset direction q))
  last_match is = grind (arith, common_steps, stop_match, last_units)

  pub last_quits : is_quit t next ≡ true
      → next_stop t.machine direction row (last_offset direction q) (units_left direction q (last_offset direction q))
      ≡ Stop.Quits unit (unit_offset direction (last_offset direction q))
  last_quits is = last_on ∙ stop_quits s.turn direction last [] is

  pub last_ends : is_match t next ≡ false → is_quit t next ≡ false
      → next_stop t.machine direction row (last_offset direction q) (units_left direction q (last_offset direction q))
      ≡ Stop.Ended
  last_ends no_match no_quit =
      last_on
      ∙ by_test (t.machine.is_dead next) (λ dead. stop_on s.turn direction last [] plain dead)
      (λ alive. stop_on s.turn direction last [] plain alive
      ∙ stop-nil t.machine direction next (next_offset direction last))
    where
      plain : t.machine.label next ≡ Label.Plain
      plain = plain_label (t.machine.label next) no_match no_quit

-- the end mark doesn't quit
pub eoi_no_quit : {t : Table} {row unit next : ℕ} → Standing t row → Turn t row unit next → unit ≡ 256
    → is_quit t next ≡ false
eoi_no_quit {t} {row} {unit} {next} s turn eoi =
    false_from_ne_true (is_quit t next) (λ quits.
    let one = s.sound.is_table.quit_only next turn.standing.below (quit_label (t.machine.label next) quits) in
    s.sound.eoi_goes_on row s.below (sym (ap (t.machine.next row) eoi) ∙ sym turn.leads ∙ one))

-- a step, as it is known of a byte of the haystack
pub stepped : {t : Table} {direction : Direction} {q : Query} {row offset next byte last : ℕ} {hay : List ℕ}
    → Place q offset → last ≡ last_offset direction q → offset ≢ last → hay ≡ q.haystack
    → byte ≡ byte_ahead direction hay offset → Turn t row byte next → Step t direction q row offset next
stepped {t} {direction} {q} {row} {offset} {next} {byte} {last} {hay} place last_is more hay_is byte_is turn =
    grind (arith, common_steps)

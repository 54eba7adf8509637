-- What a half search tells, from stop to stop.
use Rattle.rx_spec.proofs.Prelude.{rules, common_steps, ◌≡◌, ◌≢◌, ℕ, ◌+◌, ◌^◌, ◌<◌, ◌≤◌, inl, inr, Bool, true, false}
use Rattle.rx_spec.proofs.Prelude.{Option, if◌then◌else◌, Some, None, Ok, Err, List, [], ◌∷◌, length, drop, refl, ap}
use Rattle.rx_spec.proofs.Prelude.{ap₂, sym, ◌∙◌, arith, slice_index, AreBytes, Query, HalfMatch, MatchError, IsFit}
use Rattle.rx_spec.proofs.Prelude.{is_done, start_context, Label, Machine, IsWord, HalfAnswer, first_offset}
use Rattle.rx_spec.proofs.Prelude.{next_offset, units_of, first_match, last_match, at_label, walk, whole_walk}
use Rattle.rx_spec.proofs.Prelude.{half_search, beside, ltb-false, Table, IsSound, is_match}
use Rattle.rx_search.specs.Starts.{IsStart}
use Rattle.rx_spec.specs.declared.Direction.{Direction}
use Rattle.rx_lemmas.proofs.Firsts.{by_test}
use Rattle.rx_lemmas.proofs.Tables.{match_alive}
use Rattle.rx_lemmas.proofs.Words.{IsWord-head}
use Rattle.rx_lemmas.proofs.Walking.{walk-nil, walk-cons}
use Rattle.rx_search.specs.Labels.{patterns_of, IsFinal}
use Rattle.rx_search.specs.Needles.{byte_ahead, Skips}
use Rattle.rx_search.specs.Walks.{last_offset, previous_offset, units_left, units_after, at_stop_label, next_stop, Stop}
use Rattle.rx_search.specs.Walks.{stop_error, IsInSpan, IsMet}
use Rattle.rx_search.specs.Counted.{HasRoomFor, IsReady, ends_at, counted, counted_on}
use Rattle.rx_search.proofs.Standing.{Standing, match_label}
use Rattle.rx_search.proofs.Walks.{Place, stop-nil, stop-cons, units_left-more, units_left-last, byte_there, loops}
use Rattle.rx_search.proofs.Walks.{skip_keeps, rest_whole, next_place, skip_stops, bytes_on}
use Rattle.rx_search.proofs.Counting.{quiet_goes_on, match_goes_on, skip_counts, counted_few}
use Rattle.rx_search.proofs.Progress.{Standpoint}
use Rattle.rx_lemmas.proofs.ReadUnits.{units_word}

-- what a stop makes of a half search that has kept a match
abbrev pub by_stop : Machine ℕ → Direction → Bool → Option HalfMatch → Stop → HalfAnswer
by_stop m direction earliest last Stop.Ended = Ok last
by_stop m direction earliest last (Stop.Quits byte offset) = Err (MatchError.Quit byte offset)
by_stop m direction earliest last (Stop.Match row offset units) =
    let met = last_match (m.label row) offset last in
    if earliest then Ok met
    else (if m.is_dead row then Ok met else walk m direction earliest row (next_offset direction offset) met units)

module _ (m : Machine ℕ) (direction : Direction) (earliest : Bool) (last : Option HalfMatch) where
  pub walk_stops : (row offset : ℕ) (units : List ℕ)
      → walk m direction earliest row offset last units
      ≡ by_stop m direction earliest last (next_stop m direction row offset units)
  walk_stops row offset [] = grind (arith, common_steps, walk-nil, stop-nil)
  walk_stops row offset (unit ∷ units) =
      let next = m.next row unit in
      walk-cons m direction earliest row unit offset last units
      ∙ by_label (m.label next) refl (walk_stops next (next_offset direction offset) units)
      ∙ ap (by_stop m direction earliest last) (sym (stop-cons m direction row unit offset units))
    where
      by_label : (label : Label) → m.label (m.next row unit) ≡ label
          → walk m direction earliest (m.next row unit) (next_offset direction offset) last units
          ≡ by_stop m direction earliest last
          (next_stop m direction (m.next row unit) (next_offset direction offset) units)
          → (let met = last_match (m.label (m.next row unit)) offset last in
          at_label (m.label (m.next row unit)) direction earliest unit offset (Ok met)
          (if m.is_dead (m.next row unit) then Ok met
          else walk m direction earliest (m.next row unit) (next_offset direction offset) met units))
          ≡ by_stop m direction earliest last
          (at_stop_label (m.label (m.next row unit)) direction (m.next row unit) unit offset units
          (if m.is_dead (m.next row unit) then Stop.Ended
          else next_stop m direction (m.next row unit) (next_offset direction offset) units))
      by_label Label.Quits e later = rw e refl
      by_label (Label.Matches ks) e later = grind (arith, common_steps)
      by_label Label.Plain e later = by_test (m.is_dead (m.next row unit)) (λ d. rw (e, d) refl) (λ d. rw (e, d) later)

pub first_is : (ks : List ℕ) (offset : ℕ)
    → first_match ks offset ≡ record { pattern = slice_index ks 0; offset = offset }
first_is [] offset = refl
first_is (k ∷ ks) offset = refl

-- a match row tells some pattern
pub some_pattern : {t : Table} {row : ℕ} → Standing t row → is_match t row ≡ true → 0 < length (patterns_of t row)
some_pattern {t} {row} s is = grind (arith, common_steps, match_label)

-- ---- skips at match rows

previous-next : (direction : Direction) (q : Query) {offset : ℕ} → Place q offset → offset ≢ last_offset direction q
    → previous_offset direction (next_offset direction offset) ≡ offset
previous-next Direction.Forward q p ne = omega arith
previous-next Direction.Reverse q p ne = let low = p.in_span.low in omega arith

-- the match of a row at an offset
abbrev pub match_at : Table → ℕ → ℕ → HalfMatch
match_at t row offset = record { pattern = slice_index (patterns_of t row) 0; offset = offset }

-- at a match row a skip moves the last match along
match_skip : {t : Table} {row : ℕ} (direction : Direction) (q : Query) → Standing t row → is_match t row ≡ true
    → AreBytes q.haystack → q.earliest ≡ false → {from to : ℕ} → Place q from → Skips t direction q row from to
    → walk t.machine direction q.earliest row from (Some (match_at t row (previous_offset direction from)))
    (units_left direction q from)
    ≡ walk t.machine direction q.earliest row to (Some (match_at t row (previous_offset direction to)))
    (units_left direction q to)
match_skip {t} {row} direction q s is bytes late p skips =
    skip_keeps t row direction q
    (λ o. walk t.machine direction q.earliest row o (Some (match_at t row (previous_offset direction o)))
    (units_left direction q o))
    (λ o place ne unread.
    let byte = byte_ahead direction q.haystack o in
    let later = units_left direction q (next_offset direction o) in
    let before = Some (match_at t row (previous_offset direction o)) in
    let label = match_label (t.machine.label row) is in
    let back = loops s byte (byte_there direction place bytes ne) unread in
    let on = λ (r : ℕ) (l : Label) (dead : Bool).
    let met = last_match l o before in
    at_label l direction q.earliest byte o (Ok met)
    (if dead then Ok met else walk t.machine direction q.earliest r (next_offset direction o) met later) in
    ap (walk t.machine direction q.earliest row o before) (units_left-more direction place ne)
    ∙ walk-cons t.machine direction q.earliest row byte o before later
    ∙ ap (λ (r : ℕ). on r (t.machine.label r) (t.machine.is_dead r)) back
    ∙ ap₂ (on row) label (match_alive s.sound.is_table row s.below label)
    ∙ ap (λ (earliest : Bool). if earliest then Ok (Some (first_match (patterns_of t row) o))
    else walk t.machine direction q.earliest row (next_offset direction o)
    (Some (first_match (patterns_of t row) o)) later) late
    ∙ ap (λ (h : HalfMatch). walk t.machine direction q.earliest row (next_offset direction o) (Some h) later)
    (first_is (patterns_of t row) o ∙ ap (match_at t row) (sym (previous-next direction q place ne))))
    p skips

-- ---- final rows

-- behind a row that leads to the dead row alone the last match stays
walk_final : {t : Table} {row : ℕ} → Standing t row → IsFinal t row → (direction : Direction) (earliest : Bool)
    (offset : ℕ) (last : HalfMatch) (units : List ℕ) → IsWord units
    → walk t.machine direction earliest row offset (Some last) units ≡ Ok (Some last)
walk_final {t} {row} s final direction earliest offset last [] word = grind (arith, common_steps, walk-nil)
walk_final {t} {row} s final direction earliest offset last (unit ∷ units) word =
    grind (arith, common_steps, walk-cons, IsWord-head)

-- ---- how far a half search has come

-- what is left of it, from a standpoint on and with the match that was told last
abbrev pub walk_left : Table → Direction → Query → Standpoint → Option HalfMatch → HalfAnswer
walk_left t direction q now last =
    walk t.machine direction q.earliest now.row now.offset last (units_left direction q now.offset)

pub record HalfProgress (t : Table) (direction : Direction) (q : Query)
    (first now : Standpoint) (last : Option HalfMatch)
    : Type 0 where
  pub in_span : IsInSpan q now.offset
  pub walked : walk_left t direction q first None ≡ walk_left t direction q now last
  pub is_ready : IsReady t direction q now.row now.offset
  pub count : now.steps + counted t q.earliest now.row (units_left direction q now.offset)
      ≤ first.steps + counted t q.earliest first.row (units_left direction q first.offset)

pub stands : {t : Table} {direction : Direction} {q : Query} (first : Standpoint) → IsInSpan q first.offset
    → IsReady t direction q first.row first.offset → HalfProgress t direction q first first None
stands first in_span ready = record { in_span = in_span; walked = refl; is_ready = ready; count = omega arith }

-- a span that isn't done
pub record Open (q : Query) : Type 0 where
  pub order : q.start ≤ q.end
  pub fits : q.end ≤ length q.haystack

pub open_span : {q : Query} → IsFit q → is_done q ≡ false → Open q
open_span {q} fits goes = record { order = ltb-false q.end q.start goes; fits = fits.within }

pub open_at : {q : Query} {offset : ℕ} → IsFit q → IsInSpan q offset → Open q
open_at fits in_span = grind (arith, common_steps)

-- the row where it starts, and what the whole walk from there is
pub plain_start : {t : Table} {direction : Direction} {q : Query} {row : ℕ} → IsSound t → IsStart t direction q row
    → t.machine.label row ≡ Label.Plain
plain_start {t} {direction} {q} {row} sound start =
    ap t.machine.label start.row_is ∙ sound.starts_plain q.mode (start_context t.settings (beside direction q))

pub begun : {t : Table} {direction : Direction} {q : Query} {row : ℕ} → IsStart t direction q row → is_done q ≡ false
    → half_search t.machine t.settings direction q ≡ whole_walk t.machine direction q row
begun {t} {direction} {q} {row} start goes = grind (arith, common_steps)

pub first_place : (direction : Direction) {q : Query} → Open q → Place q (first_offset direction q)
first_place Direction.Forward o = grind (arith, common_steps)
first_place Direction.Reverse o = grind (arith, common_steps)

-- room for all bytes of the haystack and one more is room for the units that count
pub counted_room : (t : Table) (direction : Direction) (q : Query) (row steps : ℕ) → q.end ≤ length q.haystack
    → HasRoomFor t direction q row steps → steps + counted t q.earliest row (units_of direction q) < 2 ^ 64
counted_room t direction q row steps fits (inl room) = room
counted_room t direction q row steps fits (inr room) = grind (arith, common_steps, counted_few)

-- it is room for those that are left, too
pub room_left : (t : Table) (direction : Direction) {q : Query} (offset row steps : ℕ)
    → q.end ≤ length q.haystack → IsInSpan q offset → steps + length q.haystack + 1 < 2 ^ 64
    → steps + counted t q.earliest row (units_left direction q offset) < 2 ^ 64
room_left t direction {q} offset row steps fits in_span room = grind (arith, common_steps, counted_few)

-- where it begins, at a row that tells nothing, behind what may be skipped
pub record Begins (t : Table) (direction : Direction) (q : Query) (row to : ℕ) : Type 0 where
  pub walked : whole_walk t.machine direction q row
      ≡ walk t.machine direction q.earliest row to None (units_left direction q to)
  pub count : counted t q.earliest row (units_left direction q to) ≤ counted t q.earliest row (units_of direction q)

pub half_begins : {t : Table} {row : ℕ} (direction : Direction) {q : Query}
    → Open q → AreBytes q.haystack → Standing t row
    → t.machine.label row ≡ Label.Plain → {to : ℕ} → Skips t direction q row (first_offset direction q) to
    → Begins t direction q row to
half_begins {t} {row} direction {q} o bytes s plain {to} skips =
    let place = first_place direction o in
    let whole = ap (units_of direction) (rest_whole direction q) in
    let stops = skip_stops direction q s plain bytes place skips in
    let counts = skip_counts q.earliest direction q s
    (λ alive. quiet_goes_on {t = t} {row = row} q.earliest (record { plain = plain; alive = alive }))
    bytes o.order place skips in
    let here = ap (counted t q.earliest row) whole in
    grind (arith, common_steps, walk_stops)

module _ {t : Table} {direction : Direction} {q : Query} {first now : Standpoint} {last : Option HalfMatch}
    (p : HalfProgress t direction q first now last) where
  abbrev here : Stop
  here = next_stop t.machine direction now.row now.offset (units_left direction q now.offset)

  to_stop : walk_left t direction q first None ≡ by_stop t.machine direction q.earliest last here
  to_stop = grind (arith, common_steps, walk_stops)

  pub half_ended : next_stop t.machine direction now.row now.offset (units_left direction q now.offset) ≡ Stop.Ended
      → walk_left t direction q first None ≡ Ok last
  half_ended e = to_stop ∙ ap (by_stop t.machine direction q.earliest last) e

  pub half_fails : (error : MatchError)
      → stop_error (next_stop t.machine direction now.row now.offset (units_left direction q now.offset)) ≡ Some error
      → walk_left t direction q first None ≡ Err error
  half_fails error e = grind (arith, common_steps, to_stop)

  -- a match row that is met
  module _ {next offset : ℕ} (s : Standing t next) (m : IsMet t direction q now.offset next offset)
      (stops : next_stop t.machine direction now.row now.offset (units_left direction q now.offset)
      ≡ Stop.Match next offset (units_after direction q offset)) where
    label : t.machine.label next ≡ Label.Matches (patterns_of t next)
    label = match_label (t.machine.label next) m.is_match

    abbrev goes_on : Option HalfMatch → Bool → Bool → HalfAnswer
    goes_on kept earliest dead =
        if earliest then Ok kept
        else (if dead then Ok kept
        else walk t.machine direction q.earliest next (next_offset direction offset)
        kept (units_after direction q offset))

    met_on : walk_left t direction q first None ≡ goes_on (Some (match_at t next offset)) q.earliest false
    met_on = search (rules, to_stop, label, first_is, match_alive)

    pub half_earliest : q.earliest ≡ true
        → walk_left t direction q first None ≡ Ok (Some (match_at t next offset))
    half_earliest e = met_on ∙ ap (λ (b : Bool). goes_on (Some (match_at t next offset)) b false) e

    goes : q.earliest ≡ false
        → walk_left t direction q first None
        ≡ walk t.machine direction q.earliest next (next_offset direction offset) (Some (match_at t next offset))
        (units_after direction q offset)
    goes e = met_on ∙ ap (λ (b : Bool). goes_on (Some (match_at t next offset)) b false) e

    module _ (o : Open q) where
      pub half_last : q.earliest ≡ false → offset ≡ last_offset direction q
          → walk_left t direction q first None ≡ Ok (Some (match_at t next offset))
      half_last e over = grind (arith, common_steps, units_left-last, goes, walk-nil)

      -- nor is one told behind a row that leads to the dead row alone
      pub half_final : AreBytes q.haystack → q.earliest ≡ false → offset ≢ last_offset direction q → IsFinal t next
          → walk_left t direction q first None ≡ Ok (Some (match_at t next offset))
      half_final bytes e ne final = search (rules, goes, units_left-more, walk_final, units_word, bytes_on)

      -- behind it and what may be skipped there the search goes on
      pub half_on : AreBytes q.haystack → q.earliest ≡ false → offset ≢ last_offset direction q → (steps : ℕ)
          → steps + counted_on t direction q next (Ok (Some offset))
          ≤ now.steps + counted t q.earliest now.row (units_left direction q now.offset)
          → (to : ℕ) → Skips t direction q next (next_offset direction offset) to
          → (kept : HalfMatch) → kept ≡ match_at t next (previous_offset direction to)
          → HalfProgress t direction q first (record { row = next; offset = to; steps = steps }) (Some kept)
      half_on bytes e ne steps count to skips kept kept_is =
          let place : Place q offset = record { fits = o.fits; in_span = m.in_span } in
          let there = next_place direction place ne in
          let later = ap (drop 1) (units_left-more direction place ne) in
          let from = next_offset direction offset in
          let on = match_goes_on t next label (match_alive s.sound.is_table next s.below label) in
          let late = ap (λ (b : Bool). ends_at t b next) e ∙ on in
          let same = ap (λ (us : List ℕ). if ends_at t q.earliest next then 0 else counted t q.earliest next us) later
          ∙ ap (λ (b : Bool). if b then 0 else counted t q.earliest next (units_left direction q from)) late in
          let counts = skip_counts q.earliest direction q s (λ alive. late) bytes o.order there skips in
          let before = ap (match_at t next) (sym (previous-next direction q place ne)) in
          record {
            in_span = skips.in_span;
            walked =
                goes e
                ∙ ap₂ (λ (h : HalfMatch) (us : List ℕ). walk t.machine direction q.earliest next from (Some h) us)
                before later
                ∙ match_skip direction q s m.is_match bytes e there skips
                ∙ ap (λ (h : HalfMatch). walk t.machine direction q.earliest next to (Some h)
                (units_left direction q to))
                (sym kept_is);
            is_ready = skips.is_ready;
            count = omega arith;
          }

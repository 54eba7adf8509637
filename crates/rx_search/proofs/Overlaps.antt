-- What an overlapping search tells, from stop to stop.
use Rattle.rx_spec.proofs.Prelude.{rules, ◌≡◌, ◌≢◌, ℕ, suc, zero, ◌+◌, ◌<◌, ◌≤◌, true, false, if◌then◌else◌, Some, None}
use Rattle.rx_spec.proofs.Prelude.{Ok, Err, List, [], ◌∷◌, length, drop, refl, ap, sym, ◌∙◌, arith, common_steps}
use Rattle.rx_spec.proofs.Prelude.{get_or_default, slice_index, AreBytes, Query, MatchError, is_done, Label, Machine}
use Rattle.rx_spec.proofs.Prelude.{IsWord, first_offset, next_offset, units_of, Ending, OverlappingMatches, none_left}
use Rattle.rx_spec.proofs.Prelude.{with_items, at_item_label, overlapping_walk, remaining, overlapping}
use Rattle.rx_spec.proofs.Prelude.{whole_overlapping_walk, Table, is_match}
use Rattle.rx_spec.specs.Overlapping.{label_items}
use Rattle.rx_spec.specs.declared.Direction.{Direction}
use Rattle.rx_lemmas.proofs.Firsts.{by_test}
use Rattle.rx_lemmas.proofs.Overlapping.{overlapping-nil, overlapping-cons, overlapping_walks}
use Rattle.rx_lemmas.proofs.Words.{IsWord-head}
use Rattle.rx_search.specs.Labels.{patterns_of, is_quit}
use Rattle.rx_search.specs.Needles.{Skips}
use Rattle.rx_search.specs.Starts.{IsStart}
use Rattle.rx_search.specs.Walks.{IsInSpan, last_offset, units_left, units_after, at_stop_label, next_stop, Stop}
use Rattle.rx_search.specs.Walks.{stop_error}
use Rattle.rx_search.specs.OverlappingCalls.{next_call, IsTold}
use Rattle.rx_search.proofs.Standing.{Standing, match_label, quit_label}
use Rattle.rx_search.proofs.Walks.{rest_whole, skip_stops, Place, stop-nil, stop-cons, units_left-more, units_left-last}
use Rattle.rx_search.proofs.Halves.{Open, first_place, plain_start}

-- what a stop makes of an overlapping search
abbrev pub told_by_stop : Machine ℕ → Direction → Stop → OverlappingMatches
told_by_stop m direction Stop.Ended = none_left Ending.Ended
told_by_stop m direction (Stop.Quits byte offset) = none_left (Ending.Quits byte offset)
told_by_stop m direction (Stop.Match row offset units) =
    with_items (label_items (m.label row) offset)
    (if m.is_dead row then none_left Ending.Ended
    else overlapping_walk m direction row (next_offset direction offset) units)

module _ (m : Machine ℕ) (direction : Direction) where
  pub overlapping_stops : (row offset : ℕ) (units : List ℕ)
      → overlapping_walk m direction row offset units
      ≡ told_by_stop m direction (next_stop m direction row offset units)
  overlapping_stops row offset [] = grind (arith, common_steps, overlapping-nil, stop-nil)
  overlapping_stops row offset (unit ∷ units) =
      let next = m.next row unit in
      overlapping-cons m direction row unit offset units
      ∙ by_label (m.label next) refl (overlapping_stops next (next_offset direction offset) units)
      ∙ ap (told_by_stop m direction) (sym (stop-cons m direction row unit offset units))
    where
      by_label : (label : Label) → m.label (m.next row unit) ≡ label
          → overlapping_walk m direction (m.next row unit) (next_offset direction offset) units
          ≡ told_by_stop m direction (next_stop m direction (m.next row unit) (next_offset direction offset) units)
          → at_item_label (m.label (m.next row unit)) direction unit offset
          (if m.is_dead (m.next row unit) then none_left Ending.Ended
          else overlapping_walk m direction (m.next row unit) (next_offset direction offset) units)
          ≡ told_by_stop m direction
          (at_stop_label (m.label (m.next row unit)) direction (m.next row unit) unit offset units
          (if m.is_dead (m.next row unit) then Stop.Ended
          else next_stop m direction (m.next row unit) (next_offset direction offset) units))
      by_label Label.Quits e later = rw e refl
      by_label (Label.Matches ks) e later = grind (arith, common_steps)
      by_label Label.Plain e later = by_test (m.is_dead (m.next row unit)) (λ d. rw (e, d) refl) (λ d. rw (e, d) later)

-- ---- calls

-- the patterns of a row from one on
pub patterns_left : (ks : List ℕ) (n : ℕ) → n < length ks → drop n ks ≡ slice_index ks n ∷ drop (n + 1) ks
patterns_left [] n h = absurd (omega arith)
patterns_left (k ∷ ks) zero h = refl
patterns_left (k ∷ ks) (suc n) h =
    let more : suc (n + 1) ≡ suc n + 1 = omega arith in
    grind (arith, common_steps)

-- what is told of a match row
module _ {t : Table} {row : ℕ} (s : Standing t row) (is : is_match t row ≡ true) (direction : Direction) (q : Query)
    (offset : ℕ) where
  abbrev ks : List ℕ
  ks = patterns_of t row

  abbrev units : List ℕ
  units = units_after direction q offset

  -- a pattern that is left, and then the others
  pub call_more : (n : ℕ) → n < length (patterns_of t row)
      → next_call (remaining t.machine direction (drop n (patterns_of t row)) offset row
      (units_after direction q offset))
      ≡ record {
        result = Ok tt;
        told = Some (record { pattern = slice_index (patterns_of t row) n; offset = offset });
        left = remaining t.machine direction (drop (n + 1) (patterns_of t row))
            offset row (units_after direction q offset);
      }
  call_more n h = grind (arith, common_steps)

  pub told_within : IsInSpan q offset → (n : ℕ) → n < length (patterns_of t row)
      → IsTold t q (record { pattern = slice_index (patterns_of t row) n; offset = offset })
  told_within in_span n h = record {
    in_span = in_span;
    pattern = s.sound.patterns row (patterns_of t row) (slice_index (patterns_of t row) n) s.below
        (match_label (t.machine.label row) is)
        (n, h, sym (get_or_default (patterns_of t row) n 0 (slice_index (patterns_of t row) n) h));
  }

  -- none is left, and the walk goes on, if there is more to read
  pub none_remaining : (n : ℕ) → length (patterns_of t row) ≤ n
      → remaining t.machine direction (drop n (patterns_of t row)) offset row (units_after direction q offset)
      ≡ overlapping_walk t.machine direction row (next_offset direction offset) (units_after direction q offset)
  none_remaining n h = grind (arith, common_steps)

  module _ (o : Open q) (in_span : IsInSpan q offset) where
    place : Place q offset
    place = record { fits = o.fits; in_span = in_span }

    pub over_at : offset ≡ last_offset direction q
        → overlapping_walk t.machine direction row (next_offset direction offset) (units_after direction q offset)
        ≡ none_left Ending.Ended
    over_at e = grind (arith, common_steps, units_left-last, overlapping-nil)

    pub goes_on_at : offset ≢ last_offset direction q
        → overlapping_walk t.machine direction row (next_offset direction offset) (units_after direction q offset)
        ≡ overlapping_walk t.machine direction row (next_offset direction offset)
        (units_left direction q (next_offset direction offset))
    goes_on_at ne = grind (arith, common_steps, units_left-more, place)

-- ---- stops

module _ (t : Table) (direction : Direction) (q : Query) (row from : ℕ) where
  abbrev walked : OverlappingMatches
  walked = overlapping_walk t.machine direction row from (units_left direction q from)

  to_stop : walked
      ≡ told_by_stop t.machine direction (next_stop t.machine direction row from (units_left direction q from))
  to_stop = overlapping_stops t.machine direction row from (units_left direction q from)

  pub walk_ended : next_stop t.machine direction row from (units_left direction q from) ≡ Stop.Ended
      → overlapping_walk t.machine direction row from (units_left direction q from) ≡ none_left Ending.Ended
  walk_ended e = to_stop ∙ ap (told_by_stop t.machine direction) e

  pub call_fails : (error : MatchError)
      → stop_error (next_stop t.machine direction row from (units_left direction q from)) ≡ Some error
      → next_call (overlapping_walk t.machine direction row from (units_left direction q from))
      ≡ record { result = Err error; told = None; left = none_left Ending.Ended }
  call_fails error e = grind (arith, common_steps, to_stop)

  pub walk_met : {next offset : ℕ} → Standing t next → is_match t next ≡ true
      → next_stop t.machine direction row from (units_left direction q from)
      ≡ Stop.Match next offset (units_after direction q offset)
      → overlapping_walk t.machine direction row from (units_left direction q from)
      ≡ remaining t.machine direction (drop 0 (patterns_of t next)) offset next (units_after direction q offset)
  walk_met {next} {offset} s is e = search (rules, to_stop)

-- nothing is told from the quit row on
pub quit_tells_nothing : {t : Table} {row : ℕ} → Standing t row → is_quit t row ≡ true → (direction : Direction)
    (offset : ℕ) (units : List ℕ) → IsWord units
    → overlapping_walk t.machine direction row offset units ≡ none_left Ending.Ended
quit_tells_nothing {t} {row} s quits direction offset [] w = overlapping-nil t.machine direction row offset
quit_tells_nothing {t} {row} s quits direction offset (unit ∷ units) w =
    let table = s.sound.is_table in
    let two = table.two in
    let one = table.quit_only row s.below (quit_label (t.machine.label row) quits) in
    let dead : t.machine.next row unit ≡ 0
    = ap (λ (r : ℕ). t.machine.next r unit) one ∙ table.quit_ends unit (IsWord-head unit units w) in
    grind (arith, common_steps, overlapping-cons)

-- where it begins, at a row that tells nothing, behind what may be skipped
pub begun_overlapping : {t : Table} {row : ℕ} (direction : Direction) {q : Query} → Open q → AreBytes q.haystack
    → Standing t row → IsStart t direction q row → is_done q ≡ false → {to : ℕ}
    → Skips t direction q row (first_offset direction q) to
    → overlapping t.machine t.settings direction q
    ≡ overlapping_walk t.machine direction row to (units_left direction q to)
begun_overlapping {t} {row} direction {q} o bytes s start goes {to} skips =
    let first = first_offset direction q in
    let place = first_place direction o in
    overlapping_walks t.machine t.settings direction q goes start.allowed
    ∙ ap (whole_overlapping_walk t.machine direction q) (sym start.row_is)
    ∙ ap (overlapping_walk t.machine direction row first) (sym (ap (units_of direction) (rest_whole direction q)))
    ∙ overlapping_stops t.machine direction row first (units_left direction q first)
    ∙ ap (told_by_stop t.machine direction) (skip_stops direction q s (plain_start s.sound start) bytes place skips)
    ∙ sym (overlapping_stops t.machine direction row to (units_left direction q to))

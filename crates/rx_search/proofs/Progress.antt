-- How far a walk has come that looks for its next stop, and what each turn adds.
use Rattle.rx_spec.proofs.Prelude.{rules, common_steps, ◌≡◌, ◌≢◌, ℕ, ◌+◌, ◌-◌, ◌^◌, ◌<◌, ◌≤◌, ◌==◌, inl, inr, true}
use Rattle.rx_spec.proofs.Prelude.{false, Some, Ok, length, ap, ◌∙◌, arith, AreBytes, Query, MatchError, Table}
use Rattle.rx_spec.proofs.Prelude.{is_match, next_offset, unit_offset}
use Rattle.rx_spec.specs.declared.Direction.{Direction}
use Rattle.rx_search.specs.Labels.{is_quit}
use Rattle.rx_search.specs.Needles.{byte_ahead, Skips}
use Rattle.rx_search.specs.Walks.{IsInSpan, last_offset, bytes_left, units_left, next_stop, Stop, stop_error, StopsAt}
use Rattle.rx_search.specs.Counted.{HasRoom, IsReady, counted, counted_on}
use Rattle.rx_search.proofs.Walks.{next_place, next_left, IsQuiet, Step, step_quiet, step_match, step_quits, step_ends}
use Rattle.rx_search.proofs.Walks.{LastStep, last_match, last_quits, last_ends, skip_stops, skip_left}
use Rattle.rx_search.proofs.Counting.{step_quiet_counted, step_counted, step_match_counted, last_counted}
use Rattle.rx_search.proofs.Counting.{last_match_counted, skip_counts, quiet_goes_on, ready_counts, last_counts}

-- a row, an offset, and how many steps were counted there
pub record Standpoint : Type 0 where
  pub row : ℕ
  pub offset : ℕ
  pub steps : ℕ

pub record Progress (t : Table) (direction : Direction) (q : Query) (first now : Standpoint) : Type 0 where
  pub in_span : IsInSpan q now.offset
  pub on : bytes_left direction q now.offset ≤ bytes_left direction q first.offset
  pub room : now.steps + bytes_left direction q now.offset ≤ first.steps + bytes_left direction q first.offset
  pub stop : next_stop t.machine direction first.row first.offset (units_left direction q first.offset)
      ≡ next_stop t.machine direction now.row now.offset (units_left direction q now.offset)
  pub is_ready : IsReady t direction q first.row first.offset → IsReady t direction q now.row now.offset
  pub count : IsReady t direction q first.row first.offset
      → now.steps + counted t q.earliest now.row (units_left direction q now.offset)
      ≤ first.steps + counted t q.earliest first.row (units_left direction q first.offset)

pub begins : (t : Table) (direction : Direction) (q : Query) (first : Standpoint) → IsInSpan q first.offset
    → Progress t direction q first first
begins t direction q first is = grind (arith, common_steps)

module _ {t : Table} {direction : Direction} {q : Query} {first now : Standpoint}
    (p : Progress t direction q first now) where
  -- what the start of the walk is to be ready for
  abbrev Ready : Type 0
  Ready = IsReady t direction q first.row first.offset

  -- the counter has room for the next unit, and for the last one
  pub has_room : HasRoom t direction q first.row first.offset first.steps → q.end ≤ length q.haystack
      → now.offset ≢ last_offset direction q → now.steps < 2 ^ 64 - 1
  has_room (inl (ready, room)) fits more = grind (arith, common_steps, ready_counts)
  has_room (inr room) fits more = omega arith

  pub has_room_last : HasRoom t direction q first.row first.offset first.steps → q.end ≤ length q.haystack
      → now.offset ≡ last_offset direction q → now.steps < 2 ^ 64 - 1
  has_room_last (inl (ready, room)) fits over = grind (arith, common_steps, last_counts)
  has_room_last (inr room) fits over = omega arith

  module _ {next : ℕ} (s : Step t direction q now.row now.offset next) where
    -- a byte that leads to a quiet row, and a skip from there
    pub progress_on : IsQuiet t next → AreBytes q.haystack → (to : ℕ)
        → Skips t direction q next (next_offset direction now.offset) to
        → Progress t direction q first (record { row = next; offset = to; steps = now.steps + 1 })
    progress_on is bytes to skips =
        let from = next_offset direction now.offset in
        let place = next_place direction s.place s.more in
        let low = s.place.in_span.low in
        let high = s.place.in_span.high in
        let left = next_left direction s.place s.more in
        let less = skip_left direction q skips in
        let sound = s.turn.standing in
        let order : q.start ≤ q.end = omega arith in
        record {
          in_span = skips.in_span;
          on = omega arith;
          room = omega arith;
          stop = p.stop ∙ step_quiet s is ∙ skip_stops direction q sound is.plain bytes place skips;
          is_ready = λ r. skips.is_ready;
          count = λ r.
              omega (
                arith,
                step_quiet_counted q.earliest s is (p.is_ready r),
                skip_counts q.earliest direction q sound (λ alive. quiet_goes_on q.earliest is) bytes order place skips,
              );
        }

    -- a byte that leads to a match row
    pub met_stop : is_match t next ≡ true
        → StopsAt t direction q first.offset next
        (next_stop t.machine direction first.row first.offset (units_left direction q first.offset))
        (Ok (Some now.offset))
    met_stop is = (p.stop ∙ step_match s is, record { in_span = s.place.in_span; on = p.on; is_match = is })

    pub met_count : Ready
        → now.steps + 1 + counted_on t direction q next (Ok (Some now.offset))
        ≤ first.steps + counted t q.earliest first.row (units_left direction q first.offset)
    met_count r = omega (arith, step_match_counted s (p.is_ready r))

    -- or where nothing is counted any more
    pub end_count : Ready → now.steps + 1
        ≤ first.steps + counted t q.earliest first.row (units_left direction q first.offset)
    end_count r = omega (arith, step_counted q.earliest s (p.is_ready r))

    pub quit_stop : is_quit t next ≡ true
        → next_stop t.machine direction first.row first.offset (units_left direction q first.offset)
        ≡ Stop.Quits (byte_ahead direction q.haystack now.offset) (unit_offset direction now.offset)
    quit_stop is = p.stop ∙ step_quits s is

    pub end_stop : is_match t next ≡ false → is_quit t next ≡ false → (next == 0) ≡ true
        → next_stop t.machine direction first.row first.offset (units_left direction q first.offset) ≡ Stop.Ended
    end_stop no_match no_quit dead = p.stop ∙ step_ends s no_match no_quit dead

  -- the unit past the span
  module _ {unit next : ℕ} (over : now.offset ≡ last_offset direction q)
      (s : LastStep t direction q now.row unit next) where
    last_stop : next_stop t.machine direction first.row first.offset (units_left direction q first.offset)
        ≡ next_stop t.machine direction now.row (last_offset direction q)
        (units_left direction q (last_offset direction q))
    last_stop = p.stop ∙ ap (λ (o : ℕ). next_stop t.machine direction now.row o (units_left direction q o)) over

    pub last_met_stop : {last : ℕ} → last ≡ last_offset direction q → is_match t next ≡ true
        → StopsAt t direction q first.offset next
        (next_stop t.machine direction first.row first.offset (units_left direction q first.offset)) (Ok (Some last))
    last_met_stop {last} last_is is = grind (arith, common_steps, last_stop, last_match)

    last_count : Ready → now.steps + 1
        ≤ first.steps + counted t q.earliest first.row (units_left direction q first.offset)
    last_count r =
        let here = ap (λ (o : ℕ). counted t q.earliest now.row (units_left direction q o)) over in
        omega (arith, last_counted q.earliest s)

    pub last_met_count : {last : ℕ} → last ≡ last_offset direction q → Ready
        → now.steps + 1 + counted_on t direction q next (Ok (Some last))
        ≤ first.steps + counted t q.earliest first.row (units_left direction q first.offset)
    last_met_count {last} last_is r = search (rules, last_count, last_match_counted)

    pub last_end_count : Ready
        → now.steps + 1 ≤ first.steps + counted t q.earliest first.row (units_left direction q first.offset)
    last_end_count r = last_count r

    pub last_quit_stop : is_quit t next ≡ true
        → next_stop t.machine direction first.row first.offset (units_left direction q first.offset)
        ≡ Stop.Quits unit (unit_offset direction (last_offset direction q))
    last_quit_stop is = last_stop ∙ last_quits s is

    pub last_end_stop : is_match t next ≡ false → is_quit t next ≡ false
        → next_stop t.machine direction first.row first.offset (units_left direction q first.offset) ≡ Stop.Ended
    last_end_stop no_match no_quit = last_stop ∙ last_ends s no_match no_quit

-- a quit, as it is told
pub quits_at : {stop : Stop} {error : MatchError} {byte byte' offset offset' : ℕ} → error ≡ MatchError.Quit byte offset
    → byte ≡ byte' → offset ≡ offset' → stop ≡ Stop.Quits byte' offset' → stop_error stop ≡ Some error
quits_at error_is byte_is offset_is is = grind (arith, common_steps)

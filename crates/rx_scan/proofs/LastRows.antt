-- How far a walk from a place has come, which row it met last, and what each turn adds.
use Rattle.rx_spec.proofs.Prelude.{common_steps, ◌≡◌, ◌≢◌, ℕ, suc, zero, ◌+◌, ◌-◌, ◌<◌, ◌≤◌, ◌==◌, true, false, Option}
use Rattle.rx_spec.proofs.Prelude.{Some, None, Ok, Err, List, [], ◌∷◌, length, slice_index, ap, ap₂, sym, ◌∙◌, subst}
use Rattle.rx_spec.proofs.Prelude.{arith, ⊎_elim, cases_eq, slice_get_past, option_or, AreBytes, HalfAnswer, row_of}
use Rattle.rx_spec.proofs.Prelude.{HalfMatch, MatchError, Ending, OverlappingMatches, none_left, pattern_items}
use Rattle.rx_spec.proofs.Prelude.{with_items, Table, is_match}
use Rattle.rx_spec.specs.declared.Direction.{Direction}
use Rattle.rx_search.specs.Labels.{is_quit, patterns_of}
use Rattle.rx_search.specs.Needles.{byte_ahead, is_read}
use Rattle.rx_search.specs.Starts.{IsId}
use Rattle.rx_search.specs.Walks.{IsInSpan, units_left, units_after, next_stop, Stop}
use Rattle.rx_search.proofs.Standing.{Standing}
use Rattle.rx_search.proofs.Walks.{Place, Turn, Step, LastStep, IsQuiet, step_quiet, step_match, step_quits, step_ends}
use Rattle.rx_search.proofs.Walks.{last_match, last_ends, loops, unread_quiet}
use Rattle.rx_stream.specs.Pieces.{IsSkip}
use Rattle.rx_search.proofs.Halves.{Open, some_pattern}
use Rattle.rx_search.proofs.Overlaps.{told_by_stop, overlapping_stops, walk_met, walk_ended, goes_on_at, over_at}
use Rattle.rx_meaning.specs.AllMatches.{query_at, told_at}
use Rattle.rx_scan.specs.Tokens.{longest, unless_ended}
use Rattle.rx_scan.specs.Walks.{IsMet, IsLast, LastMet, Walked, kept_met, longest_met, told_later}
use Rattle.rx_scan.specs.declared.longest.MetRow.{MetRow}
use Rattle.rx_scan.proofs.LongestMatches.{longest_here, longest-nil, longest_append, longest_row}
use Rattle.rx_meaning.proofs.PastOffsets.{AllPast, walk_past}
use Rattle.rx_lemmas.proofs.Ranges.{or_none, or_assoc}

abbrev pub told : Option HalfMatch → HalfAnswer
told m = Ok m

-- ---- at the walk's beginning a match row counts for nothing

nothing_met : (t : Table) (ids : List ℕ) (p : ℕ) (met : MetRow) → (met.offset == p) ≡ true
    → longest_met t ids p (Some met) ≡ None
nothing_met t ids p met here = grind (arith, common_steps, longest_here)

pub last_keeps : {t : Table} {ids : List ℕ} {p end : ℕ} {matches : OverlappingMatches} (met : MetRow)
    → IsLast t ids p end matches (Some met) → IsLast t ids p end matches (kept_met p met)
last_keeps {t} {ids} {p} {end} {matches} met last = grind (arith, common_steps, nothing_met)

abbrev met_at : ℕ → ℕ → Option MetRow
met_at id at = Some (record { row = id; offset = at })

module _ {t : Table} {ids text : List ℕ} {p : ℕ} where
  pub walk_keeps : {row at : ℕ} (met : MetRow) → Walked t ids text p row at (Some met)
      → Walked t ids text p row at (kept_met p met)
  walk_keeps {row} {at} met w = grind (arith, common_steps, nothing_met)

  module _ {row at : ℕ} {last : Option MetRow} (w : Walked t ids text p row at last) where
    in_span : IsInSpan (query_at text p) at
    in_span = record { low = w.low; high = w.high }

    pub place : Place (query_at text p) at
    place = record { fits = omega arith; in_span = in_span }

    -- what is known once it is known what is told from there on
    best_by : {m : OverlappingMatches} → told_later t text p row at ≡ m
        → longest p (told_at t text p).items ≡ option_or (longest p m.items) (longest_met t ids p last)
    best_by e = w.best ∙ ap (λ (m : OverlappingMatches). option_or (longest p m.items) (longest_met t ids p last)) e

    ending_by : {m : OverlappingMatches} → told_later t text p row at ≡ m → (told_at t text p).ending ≡ m.ending
    ending_by e = w.ending ∙ ap (λ (m : OverlappingMatches). m.ending) e

    -- nothing more is told
    pub walk_over : told_later t text p row at ≡ none_left Ending.Ended
        → IsLast t ids p (length text) (told_at t text p) last
    walk_over e = record {
      best = grind (arith, common_steps, option_or, longest-nil);
      met = w.met;
    }

    pub walk_quits : (byte offset : ℕ) → told_later t text p row at ≡ none_left (Ending.Quits byte offset)
        → LastMet t ids p (length text) (told_at t text p) (Err (MatchError.Quit byte offset))
    walk_quits byte offset e = ap (λ (x : Ending). unless_ended x (longest p (told_at t text p).items)) (ending_by e)

    -- a match row is met: what was met before it counts no more
    module _ (id : ℕ) (s : Standing t (row_of ids id)) (is : is_match t (row_of ids id) ≡ true) (is_id : IsId ids id)
      where
        abbrev here : Option MetRow
        here = Some (record { row = id; offset = at })

        abbrev ks : List ℕ
        ks = patterns_of t (row_of ids id)

        outdone : option_or (longest p (pattern_items (patterns_of t (row_of ids id)) at)) (longest_met t ids p last)
            ≡ longest p (pattern_items (patterns_of t (row_of ids id)) at)
        outdone =
            ⊎_elim
            (λ (same : at ≡ p). ap
            (λ (l : Option MetRow). option_or (longest p (pattern_items ks at)) (longest_met t ids p l))
            (w.none_yet same) ∙ or_none (longest p (pattern_items ks at)))
            (λ (other : at ≢ p). by_list ks (some_pattern s is) (let low = w.low in omega arith))
            (cases_eq at p)
          where
            by_list : (js : List ℕ) → 0 < length js → p < at
                → option_or (longest p (pattern_items js at)) (longest_met t ids p last)
                ≡ longest p (pattern_items js at)
            by_list [] some h = absurd (omega arith)
            by_list (j ∷ js) some h =
                let e = (longest_row p at j js h).1 in
                ap (λ (o : Option HalfMatch). option_or o (longest_met t ids p last)) e ∙ sym e

        met_here : IsMet t ids p (length text) (record { row = id; offset = at })
        met_here = record { is_id = is_id; is_match = is; from = w.low; upto = w.high }

        best_behind : (later : OverlappingMatches) → told_later t text p row at ≡ with_items (pattern_items ks at) later
            → AllPast at later.items
            → longest p (told_at t text p).items ≡ option_or (longest p later.items) (longest_met t ids p here)
        best_behind later e past =
            grind (arith, common_steps, best_by, option_or, longest_append, or_assoc, outdone)

        open_query : Open (query_at text p)
        open_query = let low = w.low in let high = w.high in record { order = omega arith; fits = omega arith }

        pub met_on : Step t Direction.Forward (query_at text p) row at (row_of ids id)
            → Walked t ids text p (row_of ids id) (at + 1) (Some (record { row = id; offset = at }))
        met_on step =
            let q = query_at text p in
            let low = w.low in
            let more = step.more in
            let high = w.high in
            let later = told_later t text p (row_of ids id) (at + 1) in
            let told : told_later t text p row at ≡ with_items (pattern_items ks at) later
            = walk_met t Direction.Forward q row at s is (step_match step is)
            ∙ ap (with_items (pattern_items ks at)) (goes_on_at s is Direction.Forward q at open_query in_span more) in
            record {
              low = omega arith;
              high = omega arith;
              best = best_behind later told (walk_past t.machine (row_of ids id) (at + 1) at _ (omega arith));
              ending = ending_by told;
              met = met_here;
              none_yet = λ e. absurd (omega arith);
            }

        pub met_last : at ≡ length text → {unit : ℕ} → LastStep t Direction.Forward (query_at text p) row unit
            (row_of ids id)
            → IsLast t ids p (length text) (told_at t text p) (Some (record { row = id; offset = at }))
        met_last over step =
            let q = query_at text p in
            let none = none_left Ending.Ended in
            let stop = subst (λ (o : ℕ). next_stop t.machine Direction.Forward row o (units_left Direction.Forward q o)
            ≡ Stop.Match (row_of ids id) o (units_after Direction.Forward q o)) (sym over) (last_match step is) in
            let told : told_later t text p row at ≡ with_items (pattern_items ks at) none
            = walk_met t Direction.Forward q row at s is stop
            ∙ ap (with_items (pattern_items ks at)) (over_at s is Direction.Forward q at open_query in_span over) in
            record {
              best = ap₂ unless_ended (ending_by told)
                  (best_behind none told tt
                  ∙ ap (λ (o : Option HalfMatch). option_or o (longest_met t ids p here)) (longest-nil p));
              met = met_here;
            }

    -- a quiet row
    pub quiet_on : {next : ℕ} → Step t Direction.Forward (query_at text p) row at next → IsQuiet t next
        → Walked t ids text p next (at + 1) last
    quiet_on {next} step is =
        let q = query_at text p in
        let low = w.low in
        let high = w.high in
        let more = step.more in
        let told : told_later t text p row at ≡ told_later t text p next (at + 1)
        = overlapping_stops t.machine Direction.Forward row at (units_left Direction.Forward q at)
        ∙ ap (told_by_stop t.machine Direction.Forward) (step_quiet step is)
        ∙ sym (overlapping_stops t.machine Direction.Forward next (at + 1) (units_left Direction.Forward q (at + 1))) in
        record {
          low = omega arith;
          high = omega arith;
          best = best_by told;
          ending = ending_by told;
          met = w.met;
          none_yet = λ e. absurd (omega arith);
        }

    pub ends_there : {next : ℕ} → Step t Direction.Forward (query_at text p) row at next → is_match t next ≡ false
        → is_quit t next ≡ false → (next == 0) ≡ true → IsLast t ids p (length text) (told_at t text p) last
    ends_there step no_match no_quit dead =
        walk_over (walk_ended t Direction.Forward (query_at text p) row at (step_ends step no_match no_quit dead))

    pub quits_there : {next : ℕ} → Step t Direction.Forward (query_at text p) row at next → is_quit t next ≡ true
        → LastMet t ids p (length text) (told_at t text p)
        (Err (MatchError.Quit (byte_ahead Direction.Forward text at) at))
    quits_there step quits =
        let q = query_at text p in
        walk_quits (byte_ahead Direction.Forward text at) at
        (overlapping_stops t.machine Direction.Forward row at (units_left Direction.Forward q at)
        ∙ ap (told_by_stop t.machine Direction.Forward) (step_quits step quits))

    pub ends_last : {unit next : ℕ} → at ≡ length text → LastStep t Direction.Forward (query_at text p) row unit next
        → is_match t next ≡ false → is_quit t next ≡ false → IsLast t ids p (length text) (told_at t text p) last
    ends_last {unit} {next} over step no_match no_quit =
        let q = query_at text p in
        walk_over (walk_ended t Direction.Forward q row at
        (subst (λ (o : ℕ). next_stop t.machine Direction.Forward row o (units_left Direction.Forward q o) ≡ Stop.Ended)
        (sym over) (last_ends step no_match no_quit)))

  -- ---- skips

  module _ (id : ℕ) (s : Standing t (row_of ids id)) (bytes : AreBytes text) where
    -- a byte that isn't read leads the row to itself
    stays : {at : ℕ} {last : Option MetRow} → Walked t ids text p (row_of ids id) at last → at < length text
        → is_read t (row_of ids id) (slice_index text at) ≡ false
        → Step t Direction.Forward (query_at text p) (row_of ids id) at (row_of ids id)
    stays {at} w more unread = record {
      place = place w;
      more = λ e. omega arith;
      turn = record { leads = sym (loops s (slice_index text at) (bytes at 0 more) unread); standing = s };
    }

    quiet_bytes : (n at : ℕ) {last : Option MetRow} → is_match t (row_of ids id) ≡ false
        → Walked t ids text p (row_of ids id) at last → at + n ≤ length text
        → ((k : ℕ) → at ≤ k → k < at + n → is_read t (row_of ids id) (slice_index text k) ≡ false)
        → Walked t ids text p (row_of ids id) (at + n) last
    quiet_bytes zero at {last} no_match w h unread =
        let same : at ≡ at + 0 = omega arith in subst (λ (o : ℕ). Walked t ids text p (row_of ids id) o last) same w
    quiet_bytes (suc n) at {last} no_match w h unread =
        let more : at < length text = omega arith in
        let first = unread at (omega arith) (omega arith) in
        let there : at + 1 + n ≡ at + suc n = omega arith in
        let quiet = unread_quiet s (slice_index text at) (bytes at 0 more) no_match first in
        subst (λ (o : ℕ). Walked t ids text p (row_of ids id) o last) there
        (quiet_bytes n (at + 1) no_match (quiet_on w (stays w more first) quiet) (omega arith)
        (λ k low high. unread k (omega arith) (omega arith)))

    -- a quiet row skips
    pub quiet_skips : {at to : ℕ} {last : Option MetRow} → is_match t (row_of ids id) ≡ false
        → Walked t ids text p (row_of ids id) at last → IsSkip t (row_of ids id) text at to
        → Walked t ids text p (row_of ids id) to last
    quiet_skips {at} {to} {last} no_match w skip =
        let low = skip.low in
        let high = skip.high in
        let there : at + (to - at) ≡ to = omega arith in
        subst (λ (o : ℕ). Walked t ids text p (row_of ids id) o last) there
        (quiet_bytes (to - at) at no_match w (omega arith) (λ k l h. skip.skipped k l (omega arith)))

    met_bytes : (n at : ℕ) → is_match t (row_of ids id) ≡ true → IsId ids id
        → Walked t ids text p (row_of ids id) (at + 1) (met_at id at) → at + 1 + n ≤ length text
        → ((k : ℕ) → at + 1 ≤ k → k < at + 1 + n → is_read t (row_of ids id) (slice_index text k) ≡ false)
        → Walked t ids text p (row_of ids id) (at + n + 1) (met_at id (at + n))
    met_bytes zero at is is_id w h unread = grind (arith, common_steps)
    met_bytes (suc n) at is is_id w h unread =
        let more : at + 1 < length text = omega arith in
        let first = unread (at + 1) (omega arith) (omega arith) in
        let there : at + 1 + n ≡ at + suc n = omega arith in
        subst (λ (o : ℕ). Walked t ids text p (row_of ids id) (o + 1) (met_at id o)) there
        (met_bytes n (at + 1) is is_id (met_on w id s is is_id (stays w more first)) (omega arith)
        (λ k low high. unread k (omega arith) (omega arith)))

    -- a match row skips, and is met again at each place
    pub met_skips : {at to : ℕ} → is_match t (row_of ids id) ≡ true → IsId ids id
        → Walked t ids text p (row_of ids id) (at + 1) (met_at id at) → IsSkip t (row_of ids id) text (at + 1) to
        → Walked t ids text p (row_of ids id) to (met_at id (to - 1))
    met_skips {at} {to} is is_id w skip =
        let low = skip.low in
        let high = skip.high in
        let n = to - (at + 1) in
        let there : at + n ≡ to - 1 = omega arith in
        let behind : to - 1 + 1 ≡ to = omega arith in
        subst (λ (o : ℕ). Walked t ids text p (row_of ids id) o (met_at id (to - 1))) behind
        (subst (λ (o : ℕ). Walked t ids text p (row_of ids id) (o + 1) (met_at id o)) there
        (met_bytes n at is is_id w (omega arith)
        (λ k l h. skip.skipped k l (omega arith))))

-- the step by the end mark, behind the last byte
pub end_step : {t : Table} {text : List ℕ} {p row next : ℕ} → p < length text → Turn t row 256 next
    → LastStep t Direction.Forward (query_at text p) row 256 next
end_step {t} {text} {p} more turn = grind (arith, common_steps, slice_get_past)

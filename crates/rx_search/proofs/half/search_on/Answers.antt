use Rattle.rx_spec.proofs.Prelude.{common_steps, ◌≡◌, ◌+◌, ◌≤◌, ℕ, Some, Ok, sym, ◌∙◌, ap, ap₂, arith, HalfAnswer}
use Rattle.rx_spec.proofs.Prelude.{row_of, HalfMatch}
use Rattle.rx_base.specs.Input.{query_of}
use Rattle.rx_search.specs.Counted.{IsReady, counted, counted_on}
use Rattle.rx_search.specs.Labels.{IsFinal}
use Rattle.rx_search.specs.Walks.{units_left, next_stop, Stop, stop_error}
use Rattle.rx_search.proofs.Walks.{bytes_of}
use Rattle.rx_search.proofs.Halves.{open_at, half_ended, half_fails, half_earliest, half_last, half_on, half_final}
use Rattle.rx_search.proofs.Cursors.{held_by, at_same, skips_at, reached, match_there, some_there, first_pattern}
use Rattle.rx_search.proofs.Cursors.{Reached}
use Rattle.rx_search.proofs.half.search_on.Given as given
use Rattle.rx_search.proofs.half.search_on.Goals.{In-Ok-Some}
use Rattle.rx_search.proofs.half.search_on.Goals as goal

-- what is told of a match row
abbrev told : HalfMatch → HalfAnswer
told h = Ok (Some h)

pub matches-init : goal.matches-init
matches-init g c = grind (arith, common_steps, bytes_of)

pub returns-in-Ok-None-clause-answer : goal.returns-in-Ok-None-clause-answer
returns-in-Ok-None-clause-answer g c =
    let a = g.A.Automaton in
    let q = query_of c.args.input.now in
    let inv = c.matches.invariant in
    let stops = at_same a.table a.ids (λ t ids. next_stop t.machine c.args.direction (row_of ids c.matches.cursor.row)
    c.matches.at (units_left c.args.direction q c.matches.at) ≡ Stop.Ended) inv.table
    (rw c.in-Ok-None.field-0-is at c.in-Ok-None.ensures.stop) in
    sym (half_ended inv.progress stops)

pub returns-in-Err-clause-answer : goal.returns-in-Err-clause-answer
returns-in-Err-clause-answer g c =
    let a = g.A.Automaton in
    let q = query_of c.args.input.now in
    let inv = c.matches.invariant in
    let stops = at_same a.table a.ids (λ t ids.
    stop_error (next_stop t.machine c.args.direction (row_of ids c.matches.cursor.row) c.matches.at
    (units_left c.args.direction q c.matches.at)) ≡ Some c.in-Err.error) inv.table c.in-Err.ensures.stop in
    sym (half_fails inv.progress c.in-Err.error stops)

pub pattern-pattern-requires-clause-is_match : goal.pattern-pattern-requires-clause-is_match
pattern-pattern-requires-clause-is_match g c = grind (arith, common_steps)

-- the walk has led to a match row
next_reached : (g : given.Over) (c : In-Ok-Some g)
    → Reached g.A.Automaton.table g.A.Automaton.ids c.args.cursor.now.table c.next_match.new.cursor.table
    c.args.direction (query_of c.args.input.now) c.matches.cursor.row c.matches.at c.next_match.new.cursor.row
    c.in-Ok-Some.offset
next_reached g c =
    let met = g.met.A.Automaton in
    let held = held_by met.sound met.are_ids c.args.cursor.now.table c.args.cursor.now.sound in
    let same = c.matches.invariant.table in
    reached g.A.Automaton.table g.A.Automaton.ids held same (c.next_match.ensures.table ∙ same)
    c.next_match.new.cursor.is_id (rw c.in-Ok-Some.field-0-is at c.in-Ok-Some.ensures.stop)

pub pattern-pattern-requires-clause-within : goal.pattern-pattern-requires-clause-within
pattern-pattern-requires-clause-within g c = grind (arith, common_steps, some_there, next_reached)

pub returns-then-get_earliest-clause-answer : goal.returns-then-get_earliest-clause-answer
returns-then-get_earliest-clause-answer g c =
    let a = g.A.Automaton in
    let inv = c.matches.invariant in
    let offset = c.in-Ok-Some.offset in
    let r = next_reached g (goal.at.returns-then-get_earliest-clause-answer g c).In-Ok-Some in
    let pattern = first_pattern a.table a.ids r c.pattern-pattern.ensures in
    ap told (c.new.ensures ∙ ap (λ (k : ℕ). record { pattern = k; offset = offset }) pattern)
    ∙ sym (half_earliest inv.progress r.standing r.met r.stops
    (sym c.get_earliest.ensures ∙ c.if-get_earliest.true))

pub returns-then-offset-last_offset-clause-answer : goal.returns-then-offset-last_offset-clause-answer
returns-then-offset-last_offset-clause-answer g c =
    let a = g.A.Automaton in
    let inv = c.matches.invariant in
    let offset = c.in-Ok-Some.offset in
    let r = next_reached g (goal.at.returns-then-offset-last_offset-clause-answer g c).In-Ok-Some in
    let pattern = first_pattern a.table a.ids r c.pattern-pattern.ensures in
    ap told (c.new-then-offset-last_offset.ensures ∙ ap (λ (k : ℕ). record { pattern = k; offset = offset }) pattern)
    ∙ sym (half_last inv.progress r.standing r.met r.stops (open_at c.requires.fits c.requires.in_span)
    (sym c.get_earliest.ensures ∙ c.if-get_earliest.false) (c.if-offset-last_offset.true ∙ c.last_offset.ensures))

pub is_final_match-requires : goal.is_final_match-requires
is_final_match-requires g c = grind (arith, common_steps, match_there)

pub returns-then-is_final_match-clause-answer : goal.returns-then-is_final_match-clause-answer
returns-then-is_final_match-clause-answer g c =
    let a = g.A.Automaton in
    let inv = c.matches.invariant in
    let next = c.next_match.new.cursor.row in
    let offset = c.in-Ok-Some.offset in
    let same = c.next_match.ensures.table ∙ inv.table in
    let r = next_reached g (goal.at.returns-then-is_final_match-clause-answer g c).In-Ok-Some in
    let pattern = first_pattern a.table a.ids r c.pattern-pattern.ensures in
    let final = at_same a.table a.ids (λ t ids. IsFinal t (row_of ids next)) same
    (c.is_final_match.ensures c.if-is_final_match.true) in
    ap told (c.new-then-is_final_match.ensures ∙ ap (λ (k : ℕ). record { pattern = k; offset = offset }) pattern)
    ∙ sym (half_final inv.progress r.standing r.met r.stops (open_at c.requires.fits c.requires.in_span) inv.bytes
    (sym c.get_earliest.ensures ∙ c.if-get_earliest.false)
    (λ e. c.if-offset-last_offset.false (e ∙ sym c.last_offset.ensures)) final)

pub matches-preserved : goal.matches-preserved
matches-preserved g c =
    let a = g.A.Automaton in
    let q = query_of c.args.input.now in
    let d = c.args.direction in
    let inv = c.matches.invariant in
    let next = c.next_match.new.cursor.row in
    let offset = c.in-Ok-Some.offset in
    let span = open_at c.requires.fits c.requires.in_span in
    let same = c.next_match.ensures.table ∙ inv.table in
    let r = next_reached g (goal.at.matches-preserved g c).In-Ok-Some in
    let pattern = first_pattern a.table a.ids r c.pattern-pattern.ensures in
    let count = at_same a.table a.ids (λ t ids. IsReady t d q (row_of ids c.matches.cursor.row) c.matches.at
    → c.next_match.new.steps + counted_on t d q (row_of ids next) (Ok (Some offset))
    ≤ c.matches.steps + counted t q.earliest (row_of ids c.matches.cursor.row) (units_left d q c.matches.at)) inv.table
    (rw c.in-Ok-Some.field-0-is at c.in-Ok-Some.ensures.counted) inv.progress.is_ready in
    let on = half_on inv.progress r.standing r.met r.stops span inv.bytes
    (sym c.get_earliest.ensures ∙ c.if-get_earliest.false)
    (λ e. c.if-offset-last_offset.false (e ∙ sym c.last_offset.ensures)) c.next_match.new.steps count
    c.skip-at.result
    (skips_at a.table a.ids next same c.next_offset.ensures c.skip-at.ensures.skips)
    c.new-in-matches.result
    (c.new-in-matches.ensures
    ∙ ap₂ (λ (k o : ℕ). record { pattern = k; offset = o }) pattern c.previous_offset.ensures) in
    record { table = same; bytes = inv.bytes; progress = on }

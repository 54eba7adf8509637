use Rattle.rx_spec.proofs.Prelude.{common_steps, ◌-◌, Err, sym, ◌∙◌, ap, arith, refl, AreBytes, row_of, MatchError}
use Rattle.rx_spec.specs.declared.Direction.{Direction}
use Rattle.rx_search.proofs.Cursors.{held_by, held_row}
use Rattle.rx_search.proofs.Walks.{Step, bytes_of, quiet}
use Rattle.rx_meaning.specs.AllMatches.{query_at}
use Rattle.rx_scan.proofs.LastRows.{walk_keeps, place, quiet_on, met_on, ends_there, quits_there, met_skips}
use Rattle.rx_scan.proofs.LastRows.{quiet_skips}
use Rattle.rx_scan.proofs.longest.last_met.Given as given
use Rattle.rx_scan.proofs.longest.last_met.Goals.{After-next_state-row}
use Rattle.rx_scan.proofs.longest.last_met.Goals as goal

pub rows-init : goal.rows-init
rows-init g c = grind (arith, common_steps)

pub returns-then-ahead-text : goal.returns-then-ahead-text
returns-then-ahead-text g c = grind (arith, common_steps)

-- the step by the next byte
step : (g : given.Over) (c : After-next_state-row g)
    → Step (g.A.Automaton.table c.args.table.now) Direction.Forward (query_at c.args.text.now c.args.from)
    (row_of (g.A.Automaton.ids c.args.table.now) c.go_on-ahead.result.row) c.go_on-ahead.result.at
    (row_of (g.A.Automaton.ids c.args.table.now) c.next_state-row.result)
step g c =
    let held = held_by g.met.A.Automaton.sound g.met.A.Automaton.are_ids c.args.table.now c.requires.sound in
    record {
      place = place (c.go_on-ahead.ensures.walk c.args.from c.rows.invariant.walk);
      more = c.if-ahead-text.false;
      turn = record {
        leads = c.next_state-row.ensures.row;
        standing = held_row held c.next_state-row.result c.next_state-row.ensures.is_id;
      };
    }

bytes : (g : given.Over) (c : After-next_state-row g) → AreBytes c.args.text.now
bytes g c = bytes_of c.args.text.now c.args.text.now refl (λ k. omega (arith, c.type_inv.text k))

pub rows-preserved-then-is_match_row : goal.rows-preserved-then-is_match_row
rows-preserved-then-is_match_row g c =
    let at = (goal.at.rows-preserved-then-is_match_row g c).After-next_state-row in
    let next = c.next_state-row.result in
    let s = step g at in
    let w = c.go_on-ahead.ensures.walk c.args.from c.rows.invariant.walk in
    let is = sym c.is_match_row.ensures ∙ c.if-is_match_row.true in
    let is_id = c.next_state-row.ensures.is_id in
    record {
      is_id = is_id;
      walk = walk_keeps (record { row = next; offset = c.skip-at.result - 1 })
          (met_skips next s.turn.standing (bytes g at) is is_id (met_on w next s.turn.standing is is_id s)
          c.skip-at.ensures);
    }

pub returns-then-is_quit_state : goal.returns-then-is_quit_state
returns-then-is_quit_state g c =
    let at = (goal.at.returns-then-is_quit_state g c).After-next_state-row in
    quits_there (c.go_on-ahead.ensures.walk c.args.from c.rows.invariant.walk) (step g at)
    (sym c.is_quit_state.ensures ∙ c.if-is_quit_state.true)
    ∙ ap (λ (e : MatchError). Err e) (sym c.quit.ensures)

pub returns-then-is_dead_state : goal.returns-then-is_dead_state
returns-then-is_dead_state g c =
    let at = (goal.at.returns-then-is_dead_state g c).After-next_state-row in
    ends_there (c.go_on-ahead.ensures.walk c.args.from c.rows.invariant.walk) (step g at)
    (sym c.is_match_row.ensures ∙ c.if-is_match_row.false) (sym c.is_quit_state.ensures ∙ c.if-is_quit_state.false)
    (sym c.is_dead_state.ensures ∙ c.if-is_dead_state.true)

pub rows-preserved : goal.rows-preserved
rows-preserved g c =
    let at = (goal.at.rows-preserved g c).After-next_state-row in
    let s = step g at in
    let no_match = sym c.is_match_row.ensures ∙ c.if-is_match_row.false in
    record {
      is_id = c.next_state-row.ensures.is_id;
      walk = quiet_skips c.next_state-row.result s.turn.standing (bytes g at) no_match
          (quiet_on (c.go_on-ahead.ensures.walk c.args.from c.rows.invariant.walk) s
          (quiet s.turn.standing no_match (sym c.is_quit_state.ensures ∙ c.if-is_quit_state.false)
          (sym c.is_dead_state.ensures ∙ c.if-is_dead_state.false))) c.skip-at-in-rows.ensures;
    }

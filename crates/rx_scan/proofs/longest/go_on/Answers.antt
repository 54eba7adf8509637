use Rattle.rx_spec.proofs.Prelude.{◌+◌, sym, ◌∙◌, subst, arith, slice_index, row_of}
use Rattle.rx_spec.specs.declared.Direction.{Direction}
use Rattle.rx_search.proofs.Cursors.{held_by, held_row}
use Rattle.rx_search.proofs.Walks.{Turn, Step, ordinary}
use Rattle.rx_meaning.specs.AllMatches.{query_at}
use Rattle.rx_scan.specs.Walks.{Walked, kept_met}
use Rattle.rx_scan.specs.declared.longest.MetRow.{MetRow}
use Rattle.rx_scan.proofs.LastRows.{place, quiet_on, met_on, walk_keeps}
use Rattle.rx_scan.proofs.longest.go_on.Goals as goal
use Rattle.rx_scan.proofs.longest.go_on.Goals.{then-is_match_row+else-is_accel_state}
use Rattle.rx_scan.proofs.longest.go_on.Goals.{else-is_match_row+else-is_special_state}

pub bytes-preserved : goal.bytes-preserved
bytes-preserved g c =
    let t = g.A.Automaton.table c.args.table.now in
    let ids = g.A.Automaton.ids c.args.table.now in
    let text = c.args.text.now in
    let at = c.bytes.at in
    let inv = c.bytes.invariant in
    let next = c.next_state-next.result in
    let is_id = c.next_state-next.ensures.is_id in
    let held = held_by g.met.A.Automaton.sound g.met.A.Automaton.are_ids c.args.table.now c.requires.sound in
    let standing = held_row held next is_id in
    let turn : Turn t (row_of ids c.bytes.row) (slice_index text at) (row_of ids next)
    = record { leads = c.next_state-next.ensures.row; standing = standing } in
    record {
      is_id = is_id;
      low = omega arith;
      high = omega arith;
      walk = λ p begun.
          let w = inv.walk p begun in
          let step : Step t Direction.Forward (query_at text p) (row_of ids c.bytes.row) at (row_of ids next)
          = record { place = place w; more = c.bytes-test.true; turn = turn } in
          elim c.if-is_match_row.branch [
            | then-is_match_row+else-is_accel_state b ↦
                subst (λ (m : MetRow). Walked t ids text p (row_of ids next) (at + 1) (kept_met p m)) (sym b.last-is)
                (walk_keeps (record { row = next; offset = at })
                (met_on w next standing
                (sym c.is_match_row.ensures ∙ b.if-is_match_row.true) is_id step))
            | else-is_match_row+else-is_special_state b ↦
                subst (λ (m : MetRow). Walked t ids text p (row_of ids next) (at + 1) (kept_met p m)) (sym b.last-is)
                (quiet_on w step
                (ordinary standing (sym b.is_special_state.ensures ∙ b.if-is_special_state.false)))
          ];
    }

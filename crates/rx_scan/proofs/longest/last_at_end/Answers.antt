use Rattle.std.proofs.Common.{arith}
use Rattle.std.proofs.lemmas.Grind.{common_steps}
use Rattle.rx_spec.proofs.Prelude.{sym, ◌∙◌, refl, row_of}
use Rattle.rx_search.proofs.Cursors.{held_by, held_row}
use Rattle.rx_search.proofs.Walks.{Turn, eoi_no_quit}
use Rattle.rx_scan.proofs.LastRows.{met_last, ends_last, end_step, last_keeps}
use Rattle.rx_scan.proofs.longest.last_at_end.Given as given
use Rattle.rx_scan.proofs.longest.last_at_end.Goals.{After-next_eoi_state-row}
use Rattle.rx_scan.proofs.longest.last_at_end.Goals as goal

-- the step by the end mark
turn : (g : given.Over) (c : After-next_eoi_state-row g)
    → Turn (g.A.Automaton.table c.args.table.now) (row_of (g.A.Automaton.ids c.args.table.now) c.args.walk.row) 256
    (row_of (g.A.Automaton.ids c.args.table.now) c.next_eoi_state-row.result)
turn g c =
    let held = held_by g.met.A.Automaton.sound g.met.A.Automaton.are_ids c.args.table.now c.requires.sound in
    grind (arith, common_steps)

pub returns-then-is_match_row : goal.returns-then-is_match_row
returns-then-is_match_row g c text p more over w =
    let next = c.next_eoi_state-row.result in
    let turn = turn g (goal.at.returns-then-is_match_row g c).After-next_eoi_state-row in
    last_keeps (record { row = next; offset = c.args.walk.at })
    (met_last w next turn.standing (sym c.is_match_row.ensures ∙ c.if-is_match_row.true)
    c.next_eoi_state-row.ensures.is_id over (end_step more turn))

pub returns : goal.returns
returns g c text p more over w =
    let held = held_by g.met.A.Automaton.sound g.met.A.Automaton.are_ids c.args.table.now c.requires.sound in
    let turn = turn g (goal.at.returns g c).After-next_eoi_state-row in
    ends_last w over (end_step more turn) (sym c.is_match_row.ensures ∙ c.if-is_match_row.false)
    (eoi_no_quit (held_row held c.args.walk.row c.requires.is_id) turn refl)

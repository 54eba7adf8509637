use Rattle.rx_spec.proofs.Prelude.{refl, sym, ◌∙◌, arith}
use Rattle.rx_search.proofs.Standing.{standing}
use Rattle.rx_search.proofs.Walks.{bytes_of, ordinary}
use Rattle.rx_stream.proofs.Pieces.{turn_to, walk_goes_on, walk_halts, walk_passes_by}
use Rattle.rx_stream.proofs.walk.walk_near.Goals as goal

pub bytes-preserved-then-not-is_special_state : goal.bytes-preserved-then-not-is_special_state
bytes-preserved-then-not-is_special_state g c =
    let met = g.met.A.Automaton in
    let table = c.args.table.now in
    let next = c.next_state-row.ensures in
    let s = standing c.next_state-row.result (met.sound table c.requires.sound) (met.are_ids table) next.is_id in (
      next.is_id,
      walk_goes_on c.bytes.invariant.1 c.bytes-test.true (turn_to next.row s)
          (ordinary s (sym c.is_special_state.ensures ∙ c.if-not-is_special_state.true)),
    )

pub returns-in-Some : goal.returns-in-Some
returns-in-Some g c =
    let met = g.met.A.Automaton in
    let table = c.args.table.now in
    let ids = g.A.Automaton.ids table in
    let next = c.next_state-row.ensures in
    let s = standing c.next_state-row.result (met.sound table c.requires.sound) (met.are_ids table) next.is_id in
    walk_halts ids c.next_state-row.result c.bytes.invariant.1 c.bytes-test.true
    (turn_to next.row s) next.is_id c.in-Some.halt (rw c.in-Some.is at c.met.ensures)

pub bytes-preserved : goal.bytes-preserved
bytes-preserved g c =
    let met = g.met.A.Automaton in
    let table = c.args.table.now in
    let ids = g.A.Automaton.ids table in
    let next = c.next_state-row.ensures in
    let s = standing c.next_state-row.result (met.sound table c.requires.sound) (met.are_ids table) next.is_id in
    let bytes = bytes_of c.args.piece.now c.args.piece.now refl (λ k. omega (arith, c.type_inv.piece k)) in (
      next.is_id,
      walk_passes_by ids c.next_state-row.result c.bytes.invariant.1 c.bytes-test.true
          (turn_to next.row s) bytes (rw c.in_default.is at c.met.ensures) c.skip-at.ensures,
    )

use Rattle.rx_spec.proofs.Prelude.{common_steps, refl, sym, ◌∙◌, arith}
use Rattle.rx_search.proofs.Standing.{standing}
use Rattle.rx_search.proofs.Walks.{bytes_of, ordinary}
use Rattle.rx_stream.proofs.Pieces.{turn_to, walk_goes_on, walk_halts, walk_passes, walk_passes_by}
use Rattle.rx_stream.proofs.walk.walk_far.Goals as goal

pub bytes-preserved : goal.bytes-preserved
bytes-preserved g c =
    let met = g.met.A.Automaton in
    let table = c.args.table.now in
    let next = c.next_state-row.ensures in
    let s = standing c.next_state-row.result (met.sound table c.requires.sound) (met.are_ids table) next.is_id in
    record {
      is_id = next.is_id;
      walk = walk_goes_on c.bytes.invariant.walk (omega arith) (turn_to next.row s)
          (ordinary s (sym c.is_special_state.ensures ∙ c.if-not-is_special_state.true));
      on = (let before = c.bytes.invariant.on in omega arith);
    }

pub returns-in-Some : goal.returns-in-Some
returns-in-Some g c =
    let met = g.met.A.Automaton in
    let table = c.args.table.now in
    let ids = g.A.Automaton.ids table in
    let next = c.next_state-row.ensures in
    let s = standing c.next_state-row.result (met.sound table c.requires.sound) (met.are_ids table) next.is_id in
    walk_halts ids c.next_state-row.result c.bytes.invariant.walk (omega arith)
    (turn_to next.row s) next.is_id c.in-Some.halt (rw c.in-Some.is at c.met.ensures)

pub passes-preserved-in-bytes : goal.passes-preserved-in-bytes
passes-preserved-in-bytes g c =
    let met = g.met.A.Automaton in
    let table = c.args.table.now in
    let ids = g.A.Automaton.ids table in
    let next = c.next_state-row.ensures in
    let s = standing c.next_state-row.result (met.sound table c.requires.sound) (met.are_ids table) next.is_id in
    let bytes = bytes_of c.args.piece.now c.args.piece.now refl (λ k. omega (arith, c.type_inv.piece k)) in (
      next.is_id,
      walk_passes_by ids c.next_state-row.result c.bytes.invariant.walk (omega arith)
          (turn_to next.row s) bytes (rw c.in_default.is at c.met.ensures) c.skip-at.ensures,
    )

pub passes-preserved : goal.passes-preserved
passes-preserved g c =
    let met = g.met.A.Automaton in
    let table = c.args.table.now in
    let walk = c.bytes.invariant in
    let s = standing c.bytes.row (met.sound table c.requires.sound) (met.are_ids table) walk.is_id in
    let bytes = bytes_of c.args.piece.now c.args.piece.now refl (λ k. omega (arith, c.type_inv.piece k)) in
    let passed = c.pass_on.ensures in (
      passed.is_id,
      walk_passes bytes s walk.walk passed.leads (let high = walk.walk.high in omega arith),
    )

pub passes-smaller-in-bytes : goal.passes-smaller-in-bytes
passes-smaller-in-bytes g c = grind (arith, common_steps)

use Rattle.rx_spec.proofs.Prelude.{sym, ◌∙◌, refl, arith, row_of}
use Rattle.rx_search.proofs.Standing.{standing}
use Rattle.rx_search.proofs.Walks.{bytes_of}
use Rattle.rx_stream.proofs.Pieces.{walk_begins, walk_skips}
use Rattle.rx_stream.proofs.walk.skip_at_start.Goals as goal

pub returns : goal.returns
returns g c =
    let a = g.A.Automaton in
    let met = g.met.A.Automaton in
    let table = c.args.table.now in
    let s = standing c.args.row (met.sound table c.requires.sound) (met.are_ids table) c.requires.is_id in
    let bytes = bytes_of c.args.piece.now c.args.piece.now refl (λ k. omega (arith, c.type_inv.piece k)) in
    walk_skips bytes s (sym c.is_match_state.ensures ∙ c.if-is_match_state.false)
    (walk_begins (a.table table) (row_of (a.ids table) c.args.row) c.args.piece.now c.args.from c.requires.within)
    c.skip.ensures

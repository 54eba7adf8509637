use Rattle.rx_spec.proofs.Prelude.{arith, ℕ, sym, ◌∙◌, subst, List, common_steps, AreBytes, Table}
use Rattle.rx_base.specs.Input.{query_of}
use Rattle.rx_search.specs.OverlappingCalls.{Call, remaining_matches}
use Rattle.rx_search.specs.Starts.{IsId}
use Rattle.rx_search.proofs.Cursors.{held_by, held_row, at_same, skips_at}
use Rattle.rx_search.proofs.Halves.{open_span}
use Rattle.rx_search.proofs.Overlaps.{begun_overlapping}
use Rattle.rx_search.proofs.overlapping.tell_first.Goals as goal

pub returns-in-Ok-clause-call : goal.returns-in-Ok-clause-call
returns-in-Ok-clause-call g c =
    let a = g.A.Automaton in
    let met = g.met.A.Automaton in
    let q = query_of c.args.input.now in
    let d = c.args.direction in
    let held = held_by met.sound met.are_ids c.args.dfa.now c.requires.sound in
    let same = c.in-Ok.ensures.0 in
    let goes = sym c.is_done.ensures ∙ c.if-is_done.false in
    let row = c.in-Ok.cursor.row in
    let is_id = at_same a.table a.ids (λ t ids. IsId ids row) same c.in-Ok.cursor.is_id in
    let bytes = subst AreBytes c.haystack-haystack.ensures c.skip-at.ensures.bytes in
    let skips = skips_at a.table a.ids row same c.first_offset-first.ensures c.skip-at.ensures.skips in
    let walked = begun_overlapping d (open_span c.requires.fits goes) bytes (held_row held row is_id)
    c.in-Ok.ensures.1 goes skips in
    let called : Table → List ℕ → Call = λ t ids. record {
      result = c.tell_next.result;
      told = c.tell_next.new.state.told;
      left = remaining_matches t ids d q c.tell_next.new.state;
    } in
    grind (arith, common_steps)

use Rattle.rx_spec.proofs.Prelude.{common_steps, ◌∙◌, sym, subst, refl, arith, AreBytes, row_of}
use Rattle.rx_base.specs.Input.{query_of}
use Rattle.rx_search.proofs.Halves.{Begins, half_begins, open_span, plain_start, begun}
use Rattle.rx_search.proofs.InSpan.{half_in_span}
use Rattle.rx_search.proofs.Cursors.{held_by, held_row, skips_at}
use Rattle.rx_search.proofs.half.half_search.Given as given
use Rattle.rx_search.proofs.half.half_search.Goals.{After-skip-from}
use Rattle.rx_search.proofs.half.half_search.Goals as goal

pub skip-from-requires-clause-in_span : goal.skip-from-requires-clause-in_span
skip-from-requires-clause-in_span g c = grind (arith, common_steps)

-- the search begins, with what may be skipped passed over
begins_at : (g : given.Over) (c : After-skip-from g)
    → Begins (g.A.Automaton.table c.args.cursor.now.table) c.args.direction (query_of c.args.input.now)
    (row_of (g.A.Automaton.ids c.args.cursor.now.table) c.args.cursor.now.row) c.skip-from.result
begins_at g c =
    let a = g.A.Automaton in
    let row = c.args.cursor.now.row in
    let held = held_by g.met.A.Automaton.sound g.met.A.Automaton.are_ids c.args.cursor.now.table
    c.args.cursor.now.sound in
    half_begins c.args.direction (open_span c.requires.fits (sym c.is_done.ensures ∙ c.if-is_done.false))
    (subst AreBytes c.haystack.ensures c.skip-from.ensures.bytes) (held_row held row c.args.cursor.now.is_id)
    (plain_start held.sound c.requires.fresh)
    (skips_at a.table a.ids row refl c.first_offset.ensures c.skip-from.ensures.skips)

pub search_on-requires-clause-room : goal.search_on-requires-clause-room
search_on-requires-clause-room g c =
    let begins = begins_at g (goal.at.search_on-requires-clause-room g c).After-skip-from in
    omega (arith, c.requires.room, begins.count)

pub returns-clause-answer : goal.returns-clause-answer
returns-clause-answer g c = grind (arith, common_steps, begins_at, begun)

pub returns-clause-within : goal.returns-clause-within
returns-clause-within g c =
    let t = g.A.Automaton.table c.args.cursor.now.table in
    half_in_span t c.args.direction (query_of c.args.input.now) c.search_on.result (returns-clause-answer g c)

pub returns-clause-counted : goal.returns-clause-counted
returns-clause-counted g c =
    let begins = begins_at g (goal.at.returns-clause-counted g c).After-skip-from in
    omega (arith, c.search_on.ensures.counted, begins.count)

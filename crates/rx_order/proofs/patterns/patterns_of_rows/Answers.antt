use Rattle.rx_spec.proofs.Prelude.{rules, ◌≡◌, ◌*◌, ◌∙◌, slice_index, ap, arith, common_steps, pow_pos, row_of}
use Rattle.rx_spec.proofs.Prelude.{is_match}
use Rattle.rx_order.proofs.Prelude.{IsId, ids_of, patterns_of, stride, table_of}
use Rattle.rx_order.proofs.InsertedLists.{one_inserted}
use Rattle.rx_order.proofs.Sorted.{id_of_number, row_numbered}
use Rattle.rx_order.proofs.patterns.patterns_of_rows.Goals.{After-must-id}
use Rattle.rx_order.proofs.patterns.patterns_of_rows.Goals as goal

pub must-id-requires : goal.must-id-requires
must-id-requires c =
    let are = c.requires.places in
    let place = c.loop-place.place in
    let low = are.below place (omega (arith, are.to, c.loop-place-test.true)) in
    let n = row_numbered c.args.dfa.now are.are_rows (slice_index c.args.rows.now place) low in
    rw (c.stride2-stride2.ensures.value, n.shifted) n.few

-- the id is that of the row at the place
at_place : (c : After-must-id)
    → IsId (ids_of c.args.dfa.now) c.must-id.result
    × (row_of (ids_of c.args.dfa.now) c.must-id.result ≡ slice_index c.args.rows.now c.loop-place.place)
at_place c =
    let are = c.requires.places in
    let place = c.loop-place.place in
    id_of_number c.args.dfa.now are.are_rows (slice_index c.args.rows.now place)
    (are.below place (omega (arith, are.to, c.loop-place-test.true))) c.must-id.result
    (rw c.stride2-stride2.ensures.value at c.must-id.ensures)

pub patterns_of_row-requires-clause-is_id : goal.patterns_of_row-requires-clause-is_id
patterns_of_row-requires-clause-is_id c = (at_place (goal.at.patterns_of_row-requires-clause-is_id c).After-must-id).0

pub patterns_of_row-requires-clause-is_match : goal.patterns_of_row-requires-clause-is_match
patterns_of_row-requires-clause-is_match c =
    ap (is_match (table_of c.args.dfa.now))
    (at_place (goal.at.patterns_of_row-requires-clause-is_match c).After-must-id).1
    ∙ c.requires.places.matches c.loop-place.place c.loop-place.auto.place c.loop-place-test.true

pub must-requires : goal.must-requires
must-requires c = grind (arith, common_steps, row_numbered)

pub loop-place-preserved : goal.loop-place-preserved
loop-place-preserved c =
    let are = c.requires.places in
    let l = c.args.dfa.now in
    let place = c.loop-place.place in
    let row = slice_index c.args.rows.now place in
    let own = (at_place (goal.at.loop-place-preserved c).After-must-id).1 in
    let here = row_numbered l are.are_rows place (omega (arith, are.to, are.few, c.loop-place-test.true)) in
    let key : c.must.result ≡ place * stride l =
    c.must.ensures ∙ rw c.stride2-stride2.ensures.value here.shifted in
    let list : c.in_ok-list.list.items ≡ patterns_of (table_of l) row =
    c.in_ok-list.ensures ∙ ap (patterns_of (table_of l)) own in
    one_inserted c.must.result c.in_ok-list.list c.loop-place.invariant (pow_pos l.stride2) c.loop-place.auto.place key
    list c.in_ok-insert.ensures.entries

pub returns : goal.returns
returns c = search rules

use Rattle.rx_spec.proofs.Prelude.{◌≡◌, ◌+◌, ◌-◌, ◌≤◌, ◌∙◌, ◌++◌, [], ◌∷◌, ℕ, List, length, map, slice_index, ap, ap₂}
use Rattle.rx_spec.proofs.Prelude.{sym, arith, range_with_len, get_or_default, length-map-range_with_len}
use Rattle.rx_spec.proofs.Prelude.{map-range_with_len_more, row_of}
use Rattle.rx_order.proofs.Prelude.{IsId, are_needles, ids_of, leaving_of, table_of}
use Rattle.rx_dense.proofs.Rows.{number_few}
use Rattle.rx_order.proofs.Sorted.{ends_rise, id_of_number, numbered, place_below, row_in, rows_count}
use Rattle.rx_order.proofs.Sorted.{skippable, some_of}
use Rattle.rx_order.proofs.accelerate_rows.accels.Goals.{After-must-id}
use Rattle.rx_order.proofs.accelerate_rows.accels.Goals as goal

pub index-requires : goal.index-requires
index-requires c =
    let s = c.requires.sorted in
    let low = place_below s c.loop-place.place 5 (omega arith) c.loop-place-test.true in
    omega (arith, rows_count s, c.args.order.now.rows.ok.0)

pub must-id-requires : goal.must-id-requires
must-id-requires c =
    let s = c.requires.sorted in
    let place = c.loop-place.place in
    let rows = c.args.order.now.rows.items in
    let low = place_below s place 5 (omega arith) c.loop-place-test.true in
    let row : c.index.result.now ≡ slice_index rows place =
    c.index.ensures ∙ get_or_default rows place c.index.result.now 0 (omega (arith, rows_count s)) in
    let n = numbered s (slice_index rows place) (row_in s place low) in
    rw (row, c.stride2-stride2.ensures.value, n.shifted) n.few

-- the id is that of the row at the place
at_place : (c : After-must-id)
    → IsId (ids_of c.args.dfa.now) c.must-id.result
    × (row_of (ids_of c.args.dfa.now) c.must-id.result
    ≡ slice_index c.args.order.now.rows.items c.loop-place.place)
at_place c =
    let s = c.requires.sorted in
    let place = c.loop-place.place in
    let rows = c.args.order.now.rows.items in
    let low = place_below s place 5 (omega arith) c.loop-place-test.true in
    let row : c.index.result.now ≡ slice_index rows place =
    c.index.ensures ∙ get_or_default rows place c.index.result.now 0 (omega (arith, rows_count s)) in
    id_of_number c.args.dfa.now s.are_rows (slice_index rows place) (row_in s place low) c.must-id.result
    (rw (row, c.stride2-stride2.ensures.value) at c.must-id.ensures)

pub needles-requires : goal.needles-requires
needles-requires c = (at_place (goal.at.needles-requires c).After-must-id).0

pub unwrap-requires : goal.unwrap-requires
unwrap-requires c =
    some_of c.needles.result
    (c.needles.ensures.exactly
    ∙ ap (λ r. are_needles (leaving_of (table_of c.args.dfa.now) r))
    (at_place (goal.at.unwrap-requires c).After-must-id).1
    ∙ skippable c.requires.sorted c.loop-place.place c.loop-place.auto.place c.loop-place-test.true)

pub add-requires : goal.add-requires
add-requires c =
    let s = c.requires.sorted in
    let place = c.loop-place.place in
    let from = slice_index c.args.order.now.ends 2 in
    let low = place_below s place 5 (omega arith) c.loop-place-test.true in
    let few = number_few c.args.dfa.now s.are_rows place low in
    let f = λ (place : ℕ). leaving_of (table_of c.args.dfa.now) (slice_index c.args.order.now.rows.items place) in
    let count : length c.loop-place.accels ≡ place - from =
    ap length c.loop-place.invariant ∙ length-map-range_with_len f from (place - from) in
    omega (arith, few, count)

pub loop-place-preserved : goal.loop-place-preserved
loop-place-preserved c =
    let s = c.requires.sorted in
    let l = c.args.dfa.now in
    let place = c.loop-place.place in
    let rows = c.args.order.now.rows.items in
    let from = slice_index c.args.order.now.ends 2 in
    let own = (at_place (goal.at.loop-place-preserved c).After-must-id).1 in
    let behind : from ≤ place = c.loop-place.auto.place in
    let f = λ (place : ℕ). leaving_of (table_of l) (slice_index rows place) in
    let more : place + 1 - from ≡ place - from + 1 = omega arith in
    let at : from + (place - from) ≡ place = omega arith in
    let found : c.unwrap.result ≡ f place =
    (rw c.unwrap.ensures at c.needles.ensures.value) ∙ ap (leaving_of (table_of l)) own in
    c.in_ok-add.ensures.ok
    ∙ ap₂ (λ (xs : List (List ℕ)) (y : List ℕ). xs ++ y ∷ []) c.loop-place.invariant found
    ∙ sym (ap (λ n. map f (range_with_len from n)) more ∙ map-range_with_len_more f from (place - from) place at)

pub returns : goal.returns
returns c =
    let s = c.requires.sorted in
    let from = slice_index c.args.order.now.ends 2 in
    let f = λ (place : ℕ). leaving_of (table_of c.args.dfa.now) (slice_index c.args.order.now.rows.items place) in
    let rises = ends_rise s 2 5 (omega arith) (omega arith) in
    let last : c.loop-place.place ≡ slice_index c.args.order.now.ends 5 = omega
    (arith, c.loop-place.auto.place-end rises) in
    c.loop-place.invariant ∙ ap (λ n. map f (range_with_len from (n - from))) last

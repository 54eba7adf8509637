use Rattle.rx_spec.proofs.Prelude.{rules, ◌≡◌, ◌*◌, ◌/◌, ◌^◌, ◌∙◌, ℕ, List, slice_index, ap, sym, refl, subst, true}
use Rattle.rx_spec.proofs.Prelude.{arith, mul-div_cancel, get_or_default, pow_pos, swap}
use Rattle.rx_order.proofs.Prelude.{AreMoved, AreSwapped, Layout, non_decreasing_from_is_sorted, stride}
use Rattle.rx_order.proofs.ExchangedRows.{count_of}
use Rattle.rx_order.proofs.InPlace.{each_in_place, in_place}
use Rattle.rx_order.proofs.Moved.{IsExchange, all_ids, exchanged, id_of_place, placed, turn, unmoved}
use Rattle.rx_order.proofs.places.Places.arrange.Goals as goal

pub prove-unreachable-requires : goal.prove-unreachable-requires
prove-unreachable-requires c =
    c.if-prove.true
    (rw (c.words.ensures.value, c.stride2-stride2.ensures.value) (sym (count_of c.requires.order)))

pub returns-then-is_sorted : goal.returns-then-is_sorted
returns-then-is_sorted c =
    let rises = non_decreasing_from_is_sorted c.args.order.now true c.if-is_sorted.ensures.cases in
    in_place c.words.ensures.rows c.words.ensures.starts c.requires.unmoved (each_in_place _ c.requires.order rises)

pub loop-place-init : goal.loop-place-init
loop-place-init c = search (rules, unmoved)

pub index-requires : goal.index-requires
index-requires c =
    let t = turn c.loop-place.invariant c.requires.order c.loop-place-test.true in
    omega (arith, c.loop-place.lying.ok.0)

pub index-id-requires : goal.index-id-requires
index-id-requires c =
    let t = turn c.loop-place.invariant c.requires.order c.loop-place-test.true in
    omega (arith, c.loop-place.ids.ok.0)

pub index-requires-in-loop-place : goal.index-requires-in-loop-place
index-requires-in-loop-place c =
    let t = turn c.loop-place.invariant c.requires.order c.loop-place-test.true in
    let other : c.index.result.now ≡ slice_index c.loop-place.lying.items c.loop-place.place =
    c.index.ensures
    ∙ get_or_default c.loop-place.lying.items c.loop-place.place c.index.result.now 0 (omega arith) in
    omega (arith, c.loop-place.ids.ok.0)

pub swap_states-requires-clause-id1 : goal.swap_states-requires-clause-id1
swap_states-requires-clause-id1 c =
    let t = turn c.loop-place.invariant c.requires.order c.loop-place-test.true in
    let other : c.index.result.now ≡ slice_index c.loop-place.lying.items c.loop-place.place =
    c.index.ensures
    ∙ get_or_default c.loop-place.lying.items c.loop-place.place c.index.result.now 0 (omega arith) in
    id_of_place c.loop-place.invariant.moved c.loop-place.place c.index-in-loop-place.result.now t.place_below
    (c.index-in-loop-place.ensures
    ∙ get_or_default c.loop-place.ids.items c.index.result.now c.index-in-loop-place.result.now 0 (omega arith)
    ∙ ap (slice_index c.loop-place.ids.items) other ∙ t.other_id)

pub swap_states-requires-clause-id2 : goal.swap_states-requires-clause-id2
swap_states-requires-clause-id2 c =
    let t = turn c.loop-place.invariant c.requires.order c.loop-place-test.true in
    let from = t.from in
    let row = slice_index c.args.order.now c.loop-place.place in
    id_of_place c.loop-place.invariant.moved from.place c.index-id.result.now (omega (arith, from.below))
    (c.index-id.ensures ∙ get_or_default c.loop-place.ids.items row c.index-id.result.now 0 (omega arith) ∙ from.id)

pub swap-requires-clause-i_in_bounds : goal.swap-requires-clause-i_in_bounds
swap-requires-clause-i_in_bounds c =
    let t = turn c.loop-place.invariant c.requires.order c.loop-place-test.true in
    omega (arith, c.loop-place.lying.ok.0)

pub swap-requires-clause-j_in_bounds : goal.swap-requires-clause-j_in_bounds
swap-requires-clause-j_in_bounds c =
    let t = turn c.loop-place.invariant c.requires.order c.loop-place-test.true in
    let from = t.from in
    let row = slice_index c.args.order.now c.loop-place.place in
    let id : c.index-id.result.now ≡ from.place * stride c.args.dfa.now =
    c.index-id.ensures ∙ get_or_default c.loop-place.ids.items row c.index-id.result.now 0 (omega arith) ∙ from.id in
    rw (
      c.as_usize.ensures.value,
      c.stride2-stride2.ensures.value,
      id,
      mul-div_cancel from.place (pow_pos c.args.dfa.now.stride2),
    )
    (omega (arith, from.below, c.loop-place.lying.ok.0))

pub swap-requires-in-loop-place-clause-i_in_bounds : goal.swap-requires-in-loop-place-clause-i_in_bounds
swap-requires-in-loop-place-clause-i_in_bounds c =
    let t = turn c.loop-place.invariant c.requires.order c.loop-place-test.true in
    omega (arith, c.loop-place.ids.ok.0)

pub swap-requires-in-loop-place-clause-j_in_bounds : goal.swap-requires-in-loop-place-clause-j_in_bounds
swap-requires-in-loop-place-clause-j_in_bounds c =
    let t = turn c.loop-place.invariant c.requires.order c.loop-place-test.true in
    let other : c.index.result.now ≡ slice_index c.loop-place.lying.items c.loop-place.place =
    c.index.ensures
    ∙ get_or_default c.loop-place.lying.items c.loop-place.place c.index.result.now 0 (omega arith) in
    omega (arith, c.loop-place.ids.ok.0)

pub loop-place-preserved : goal.loop-place-preserved
loop-place-preserved c =
    let old : Layout = c.args.dfa.now in
    let lying : List ℕ = c.loop-place.lying.items in
    let ids : List ℕ = c.loop-place.ids.items in
    let place = c.loop-place.place in
    let row = slice_index c.args.order.now place in
    let moved = c.loop-place.invariant.moved in
    let t = turn c.loop-place.invariant c.requires.order c.loop-place-test.true in
    let from = t.from in
    let other : c.index.result.now ≡ slice_index lying place =
    c.index.ensures ∙ get_or_default lying place c.index.result.now 0 (omega arith) in
    let id : c.index-id.result.now ≡ from.place * stride old =
    c.index-id.ensures ∙ get_or_default ids row c.index-id.result.now 0 (omega arith) ∙ from.id in
    let at : c.index-in-loop-place.result.now ≡ place * stride old =
    c.index-in-loop-place.ensures
    ∙ get_or_default ids c.index.result.now c.index-in-loop-place.result.now 0 (omega arith)
    ∙ ap (slice_index ids) other ∙ t.other_id in
    let behind : c.as_usize.result / 2 ^ c.stride2-stride2.result ≡ from.place =
    rw (c.as_usize.ensures.value, c.stride2-stride2.ensures.value, id)
    (mul-div_cancel from.place (pow_pos old.stride2)) in
    let width = ap (λ (l : Layout). stride l) moved.rest in
    let swapped : AreSwapped (stride old) c.loop-place.dfa.words c.swap_states.new.self.words (place * stride old)
    (from.place * stride old) =
    rw (width, at, id) at c.swap_states.ensures.swapped in
    let x : IsExchange old c.loop-place.dfa lying ids row place c.index.result.now from.place
    c.swap_states.new.self.words = record {
      row_below = t.row_below;
      place_below = t.place_below;
      other_is = other;
      from_is = from.id;
      swapped = swapped;
    } in
    let is = c.swap_states.ensures.rest in
    rw (c.swap.ensures.items, c.swap-in-loop-place.ensures.items, behind)
    (record {
      moved =
          subst (λ l. AreMoved old l (swap lying place from.place) (swap ids row c.index.result.now)) (sym is)
          (exchanged moved x);
      there = placed moved x c.args.order.now c.requires.order refl c.loop-place.invariant.there;
    })

pub remap-requires-clause-ids : goal.remap-requires-clause-ids
remap-requires-clause-ids c = rw c.deref.ensures.value (all_ids c.loop-place.invariant.moved)

pub returns : goal.returns
returns c =
    let count = count_of c.requires.order in
    record {
      now = c.loop-place.dfa;
      lying = c.loop-place.lying.items;
      ids = c.loop-place.ids.items;
      moved = c.loop-place.invariant.moved;
      there = λ place h. c.loop-place.invariant.there place (omega (arith, c.loop-place-test.false));
      is = rw c.deref.ensures.value at c.remap.ensures.value;
      machine = rw c.deref.ensures.value at c.remap.ensures.machine;
    }

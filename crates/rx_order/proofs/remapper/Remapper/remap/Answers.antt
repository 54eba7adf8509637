use Rattle.rx_spec.proofs.Prelude.{rules, ◌≡◌, ◌*◌, ◌^◌, ◌<◌, length, ◌∙◌, ap, subst, arith, common_steps, mod-eq_of_lt}
use Rattle.rx_order.proofs.Prelude.{IsArrangement}
use Rattle.rx_order.proofs.ExchangedRows.{row_below}
use Rattle.rx_order.proofs.NewIds.{AreNoted, are_ids, looked_up, none_noted, one_noted}
use Rattle.rx_order.proofs.Renamed.{renamed}
use Rattle.rx_order.proofs.remapper.Remapper.remap.Goals as goal

pub loop-place-init : goal.loop-place-init
loop-place-init g c = grind (arith, common_steps, none_noted)

pub index_mut-requires : goal.index_mut-requires
index_mut-requires g c = search (rules, row_below)

pub loop-place-preserved : goal.loop-place-preserved
loop-place-preserved g c =
    let is = subst IsArrangement c.self.view_is c.self.invariant in
    let rows = c.deref-row-items.ensures.value ∙ ap (λ a. a.rows) c.self.view_is in
    let stride2 = ap (λ a. a.stride2) c.self.view_is in
    let low : c.loop-place.place < length c.args.self.rows = rw (← rows) c.loop-place-test.true in
    let id : c.loop-place.place * 2 ^ c.args.self.stride2 < 2 ^ 64 = omega (arith, is.ids c.loop-place.place low) in
    let noted : c.must.result ≡ c.loop-place.place * 2 ^ c.args.self.stride2 =
    c.must.ensures ∙ rw stride2 (mod-eq_of_lt id) in
    rw (rows, noted) (one_noted is c.loop-place.place c.loop-place.map.items low c.loop-place.invariant)

pub remap-requires-clause-ids : goal.remap-requires-clause-ids
remap-requires-clause-ids g c =
    let is = subst IsArrangement c.self.view_is c.self.invariant in
    let rows = c.deref-row-items.ensures.value ∙ ap (λ a. a.rows) c.self.view_is in
    let all : c.loop-place.place ≡ length c.args.self.rows = rw (← rows) (omega arith) in
    let noted = subst (λ n. AreNoted c.args.self n c.loop-place.map.items) all c.loop-place.invariant in
    rw c.deref.ensures.value (are_ids is noted (g.R.Remappable.transitions c.args.r.now) c.requires.fits)

pub returns : goal.returns
returns g c =
    let is = subst IsArrangement c.self.view_is c.self.invariant in
    let rows = c.deref-row-items.ensures.value ∙ ap (λ a. a.rows) c.self.view_is in
    let all : c.loop-place.place ≡ length c.args.self.rows = rw (← rows) (omega arith) in
    let noted = subst (λ n. AreNoted c.args.self n c.loop-place.map.items) all c.loop-place.invariant in
    let now = g.R.Remappable.transitions c.args.r.now in
    let next = g.R.Remappable.transitions c.remap.new.self in
    let ok = rw c.deref.ensures.value at c.remap.ensures.renamed
    ∙ looked_up is noted now c.requires.fits c.state_len.ensures.rows in
    record {
      ok = ok;
      err = tt;
      rest = c.remap.ensures.rest;
      renamed = λ t h. renamed c.args.self t now next is h ok;
    }

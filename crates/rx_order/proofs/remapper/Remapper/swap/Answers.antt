use Rattle.rx_spec.proofs.Prelude.{arith, ◌≡◌, ◌<◌, ◌/◌, ◌^◌, length, sym, ◌∙◌, ap, subst, common_steps}
use Rattle.rx_order.proofs.Prelude.{Arrangement, IsRearranged, with_swapped}
use Rattle.rx_order.proofs.Renamed.{arrangement_of_exchanged, rearranged_of_exchanged}
use Rattle.rx_order.proofs.remapper.Remapper.swap.Goals as goal

pub invariant_of-self : goal.invariant_of-self
invariant_of-self g c = grind (arith, common_steps, arrangement_of_exchanged)

pub returns-clause-rearranged : goal.returns-clause-rearranged
returns-clause-rearranged g c =
    let rows = ap (λ (a : Arrangement). length a.rows) c.self.view_is ∙ c.requires.fits.count in
    let stride2 = ap (λ (a : Arrangement). a.stride2) c.self.view_is ∙ c.requires.fits.stride2 in
    let now = g.R.Remappable.transitions c.args.r.now in
    let next = g.R.Remappable.transitions c.swap_states.new.self in
    let first = c.args.id1 / 2 ^ c.self.inside.stride2 in
    let second = c.args.id2 / 2 ^ c.self.inside.stride2 in
    let first_within : first < length c.self.inside.rows.items = rw (stride2, rows) c.requires.id1.below in
    let second_within : second < length c.self.inside.rows.items = rw (stride2, rows) c.requires.id2.below in
    let swapped : next ≡ with_swapped now first second = rw stride2 c.swap_states.ensures.swapped in
    λ t h.
    let before = subst (λ (a : Arrangement). IsRearranged a t now) (sym c.self.view_is) h in
    rw (c.swap.ensures.items, c.as_usize.ensures.value, c.as_usize-2.ensures.value)
    (rearranged_of_exchanged _ first second first_within second_within swapped before)

use Rattle.rx_spec.proofs.Prelude.{arith, ℕ, ◌*◌, ◌<◌, ◌≤◌, length, slice_index, sym, subst, common_steps}
use Rattle.rx_dense.specs.Layouts.{Layout, row_count, stride}
use Rattle.rx_dense.proofs.Shaped.{shaped_cut}
use Rattle.rx_dense.proofs.dfa.rows.DFA+Vec+u32.truncate_states.Goals as goal

pub invariant_of-self : goal.invariant_of-self
invariant_of-self c =
    let back = sym c.self.view_is in
    let within = subst (λ (l : Layout). c.args.len ≤ row_count l) back c.requires.within in
    let rows =
    subst (λ (l : Layout). (k : ℕ) → k < c.args.len * stride l → slice_index l.words k < c.args.len * stride l)
    back c.requires.rows in
    let starts =
    subst (λ (l : Layout). (k : ℕ) → k < length l.starts → slice_index l.starts k < c.args.len * stride l)
    back c.requires.starts in
    rw (c.truncate.ensures.items, rw (← c.self.view_is) at c.stride-width.ensures.value)
    (shaped_cut _ c.args.len c.requires.two within rows starts c.self.invariant)

pub returns : goal.returns
returns c = grind (arith, common_steps)

use Rattle.rx_spec.proofs.Prelude.{sym, subst, arith}
use Rattle.rx_search.specs.Starts.{IsId}
use Rattle.rx_dense.specs.Layouts.{Layout, ids_of}
use Rattle.rx_dense.proofs.Rows.{IsRowId-id, entry_within}
use Rattle.rx_dense.proofs.Shaped.{shaped_set}
use Rattle.rx_dense.proofs.dfa.build.DFA+Vec+u32.set_transition.Goals as goal

pub index_mut-requires : goal.index_mut-requires
index_mut-requires c =
    let within = rw (← c.self.view_is) at c.column-column.ensures.within in
    let from = subst (λ (l : Layout). IsId (ids_of l) c.args.from) (sym c.self.view_is) c.requires.from in
    omega (arith, entry_within _ c.self.invariant.rows c.args.from c.column-column.result from within)

pub invariant_of-self : goal.invariant_of-self
invariant_of-self c =
    let within = rw (← c.self.view_is) at c.column-column.ensures.within in
    let from = subst (λ (l : Layout). IsId (ids_of l) c.args.from) (sym c.self.view_is) c.requires.from in
    let to = subst (λ (l : Layout). IsId (ids_of l) c.args.to) (sym c.self.view_is) c.requires.to in
    rw (c.as_usize.ensures.value, c.as_u32.ensures.value)
    (shaped_set _ c.args.from c.column-column.result c.args.to (IsRowId-id _ _ from) within (IsRowId-id _ _ to)
    c.self.invariant)

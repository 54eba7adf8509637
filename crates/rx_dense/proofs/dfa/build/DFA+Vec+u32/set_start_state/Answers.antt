use Rattle.rx_spec.proofs.Prelude.{◌<◌, length, sym, subst}
use Rattle.rx_base.specs.Search.{mode_of}
use Rattle.rx_search.specs.Starts.{IsId}
use Rattle.rx_dense.specs.Layouts.{Layout, ids_of, mode_place}
use Rattle.rx_dense.proofs.Rows.{IsRowId-id, start_within}
use Rattle.rx_dense.proofs.Shaped.{shaped_start}
use Rattle.rx_dense.proofs.dfa.build.DFA+Vec+u32.set_start_state.Goals as goal

pub invariant_of-self : goal.invariant_of-self
invariant_of-self c =
    let is = subst (λ (l : Layout). IsId (ids_of l) c.args.id) (sym c.self.view_is) c.requires.is_id in
    let has =
    subst (λ (l : Layout). mode_place (mode_of c.args.anchored) < length l.starts) (sym c.self.view_is)
    c.requires.has_starts in
    rw (c.mode_place.ensures.value, c.context_number.ensures.value, c.as_u32.ensures.value)
    (shaped_start _ _ c.args.id (start_within _ c.self.invariant.starts (mode_of c.args.anchored) c.args.start has)
    (IsRowId-id _ _ is) c.self.invariant)

use Rattle.rx_spec.proofs.Prelude.{◌∙◌, sym, eqb-false}
use Rattle.rx_dense.proofs.Shaped.{IsRowId-same, rows_apart, shaped_swap}
use Rattle.rx_dense.proofs.dfa.rows.DFA+Vec+u32.swap_states.Goals as goal

pub swap_rows-requires-clause-first_within : goal.swap_rows-requires-clause-first_within
swap_rows-requires-clause-first_within c =
    let is1 = IsRowId-same c.self.view_is c.requires.id1 in
    rw (c.as_usize.ensures.value, rw (← c.self.view_is) at c.stride-width.ensures.value) is1.below

pub swap_rows-requires-clause-second_within : goal.swap_rows-requires-clause-second_within
swap_rows-requires-clause-second_within c =
    let is2 = IsRowId-same c.self.view_is c.requires.id2 in
    rw (c.as_usize-2.ensures.value, rw (← c.self.view_is) at c.stride-width.ensures.value) is2.below

pub swap_rows-requires-clause-apart : goal.swap_rows-requires-clause-apart
swap_rows-requires-clause-apart c =
    let is2 = IsRowId-same c.self.view_is c.requires.id2 in
    let differ = eqb-false _ _ (sym c.eq.ensures ∙ c.if-eq.false) in
    rw (c.as_usize.ensures.value, c.as_usize-2.ensures.value, rw (← c.self.view_is) at c.stride-width.ensures.value)
    (rows_apart _ c.args.id1 c.args.id2 (IsRowId-same c.self.view_is c.requires.id1) is2 differ)

pub invariant_of-self : goal.invariant_of-self
invariant_of-self c =
    let stride_is = rw (← c.self.view_is) at c.stride-width.ensures.value in
    let is1 = IsRowId-same c.self.view_is c.requires.id1 in
    let is2 = IsRowId-same c.self.view_is c.requires.id2 in
    shaped_swap _ c.swap_rows.new.words.items c.args.id1 c.args.id2 c.self.invariant is1 is2
    (rw (c.as_usize.ensures.value, c.as_usize-2.ensures.value, stride_is) at c.swap_rows.ensures)

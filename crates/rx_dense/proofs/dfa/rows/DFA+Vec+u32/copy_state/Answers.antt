use Rattle.rx_spec.proofs.Prelude.{◌∙◌, sym, eqb-false}
use Rattle.std.proofs.lemmas.List.{with_items_is}
use Rattle.rx_dense.proofs.Shaped.{IsRowId-same, rows_apart, shaped_copy}
use Rattle.rx_dense.proofs.dfa.rows.DFA+Vec+u32.copy_state.Goals as goal

pub copy_row-requires-clause-from_within : goal.copy_row-requires-clause-from_within
copy_row-requires-clause-from_within c =
    let stride_is = rw (← c.self.view_is) at c.stride-width.ensures.value in
    let is = IsRowId-same c.self.view_is c.requires.from in
    rw (c.as_usize.ensures.value, stride_is, c.deref_mut.ensures.value) is.below

pub copy_row-requires-clause-to_within : goal.copy_row-requires-clause-to_within
copy_row-requires-clause-to_within c =
    let stride_is = rw (← c.self.view_is) at c.stride-width.ensures.value in
    let is = IsRowId-same c.self.view_is c.requires.to in
    rw (c.as_usize-2.ensures.value, stride_is, c.deref_mut.ensures.value) is.below

pub copy_row-requires-clause-apart : goal.copy_row-requires-clause-apart
copy_row-requires-clause-apart c =
    let to_is = IsRowId-same c.self.view_is c.requires.to in
    let differ = eqb-false _ _ (sym c.eq.ensures ∙ c.if-eq.false) in
    rw (c.as_usize.ensures.value, c.as_usize-2.ensures.value, rw (← c.self.view_is) at c.stride-width.ensures.value)
    (rows_apart _ c.args.from c.args.to (IsRowId-same c.self.view_is c.requires.from) to_is differ)

pub invariant_of-self : goal.invariant_of-self
invariant_of-self c =
    let stride_is = rw (← c.self.view_is) at c.stride-width.ensures.value in
    let from_is = IsRowId-same c.self.view_is c.requires.from in
    let to_is = IsRowId-same c.self.view_is c.requires.to in
    let kept_words =
    with_items_is c.self.inside.words c.copy_row.new.words (c.copy_row.ensures.count ∙ c.deref_mut.ensures.len) in
    rw kept_words
    (shaped_copy _ c.copy_row.new.words c.args.from c.args.to c.self.invariant from_is to_is
    (rw (c.as_usize.ensures.value, c.as_usize-2.ensures.value, stride_is, c.deref_mut.ensures.value)
    at c.copy_row.ensures))

pub returns-clause-rows : goal.returns-clause-rows
returns-clause-rows c = (invariant_of-self c).rows

use Rattle.rx_spec.proofs.Prelude.{common_steps, ◌≡◌, ◌*◌, ◌∙◌, map, slice_index, refl, ap₂, sym, subst, arith}
use Rattle.rx_dense.specs.Builder.{pattern_lists, with_patterns}
use Rattle.rx_dense.specs.Layouts.{Layout, stride}
use Rattle.rx_dense.specs.declared.special.Special.{Special}
use Rattle.rx_dense.proofs.Shaped.{rows_kept, starts_kept}
use Rattle.rx_order.specs.RowOrder.{is_marked}
use Rattle.rx_order.specs.SpecialIds.{special_ids}
use Rattle.rx_minimize.specs.Minimized.{IsMinimized}
use Rattle.rx_minimize.proofs.JoinedRows.{joined_by}
use Rattle.rx_minimize.proofs.JoinedTables.{IsMinimizing}
use Rattle.rx_minimize.proofs.Minimizing.{minimized}
use Rattle.rx_minimize.proofs.KeptKinds.{IsKept, have_matches, numbered}
use Rattle.rx_minimize.proofs.NewIds.{are_firsts, ends_few, ids_count, new_ids, numbers_few, place_least}
use Rattle.rx_minimize.proofs.Quotients.{two_firsts}
use Rattle.rx_minimize.proofs.minimize_rows.join_blocks.Goals.{In_ok-ends, In_ok-ids}
use Rattle.rx_minimize.proofs.minimize_rows.join_blocks.Goals as goal

pub ids-requires-clause-ids : goal.ids-requires-clause-ids
ids-requires-clause-ids c = rw c.stride2.ensures.value (numbers_few c.requires c.in_ok-numbering.ensures)

-- the rows that are kept
kept : (c : In_ok-ends) → IsKept c.args.dfa.now c.args.blocks.now c.in_ok-numbering.numbering.numbers.items
    c.in_ok-numbering.numbering.firsts.items c.in_ok-ends.ends
kept c = record {
  in_order = c.requires.in_order;
  plain = c.requires.plain;
  are_blocks = c.requires.are_blocks;
  renumbered = c.in_ok-numbering.ensures;
  within = rw c.deref.ensures.value at c.in_ok-ends.ensures.within;
  to_end = rw c.deref.ensures.value at c.in_ok-ends.ensures.to_end;
}

pub patterns_of_rows-requires-clause-places : goal.patterns_of_rows-requires-clause-places
patterns_of_rows-requires-clause-places c =
    rw c.deref-2.ensures.value
    (have_matches (kept (goal.at.patterns_of_rows-requires-clause-places c).In_ok-ends) c.requires.rows)

pub special-special-requires-clause-ids : goal.special-special-requires-clause-ids
special-special-requires-clause-ids c =
    let l : Layout = c.args.dfa.now in
    rw c.stride2-2.ensures.value
    (λ kind h.
    ends_few l c.requires.rows.few (are_firsts c.requires c.in_ok-numbering.ensures)
    (slice_index c.in_ok-ends.ends kind)
    ((rw c.deref.ensures.value at c.in_ok-ends.ensures.within) kind h))

pub keep_states-requires-clause-two : goal.keep_states-requires-clause-two
keep_states-requires-clause-two c =
    rw c.deref-3.ensures.value (two_firsts (numbered (kept (goal.at.keep_states-requires-clause-two c).In_ok-ends)))

pub keep_states-requires-clause-within : goal.keep_states-requires-clause-within
keep_states-requires-clause-within c =
    rw (c.deref-3.ensures.value, c.in-Ok.ensures.ok) (are_firsts c.requires c.in_ok-numbering.ensures).below

pub keep_states-requires-clause-down : goal.keep_states-requires-clause-down
keep_states-requires-clause-down c =
    rw c.deref-3.ensures.value (place_least (are_firsts c.requires c.in_ok-numbering.ensures))

-- the ids are those of the first rows
ids_are : (c : In_ok-ids) → c.in_ok-ids.ids.items
    ≡ map (λ number. number * stride c.args.dfa.now) c.in_ok-numbering.numbering.numbers.items
ids_are c = rw c.stride2.ensures.value at c.in_ok-ids.ensures

pub keep_states-requires-clause-count : goal.keep_states-requires-clause-count
keep_states-requires-clause-count c =
    let is = ids_are (goal.at.keep_states-requires-clause-count c).In_ok-ids in
    rw (c.deref-4.ensures.value, c.in-Ok.ensures.ok) (ids_count c.requires c.in_ok-numbering.ensures _ is)

pub keep_states-requires-clause-ids : goal.keep_states-requires-clause-ids
keep_states-requires-clause-ids c =
    let is = ids_are (goal.at.keep_states-requires-clause-ids c).In_ok-ids in
    rw (c.deref-3.ensures.value, c.deref-4.ensures.value, c.in-Ok.ensures.ok)
    (new_ids c.requires c.in_ok-numbering.ensures _ is)

pub returns-clause-ok : goal.returns-clause-ok
returns-clause-ok c =
    let l : Layout = c.args.dfa.now in
    let lists = pattern_lists c.in_ok-patterns.patterns in
    let s : IsMinimizing l c.args.blocks.now c.in_ok-numbering.numbering.numbers.items
    c.in_ok-numbering.numbering.firsts.items c.in_ok-ids.ids.items c.in_ok-ends.ends lists c.keep_states.new.self =
    record {
      kept = kept (goal.at.returns-clause-ok c).In_ok-ends;
      are_starts = c.requires.starts;
      ids_are = rw c.stride2.ensures.value at c.in_ok-ids.ensures;
      patterns = rw c.deref-2.ensures.value at c.in_ok-patterns.ensures.lists;
      few = c.in-Ok.ensures.fits;
      joined = joined_by (with_patterns l lists) c.in_ok-numbering.numbering.firsts.items c.in_ok-ids.ids.items
          (rows_kept l (with_patterns l lists) refl refl refl c.requires.rows)
          (starts_kept l (with_patterns l lists) refl (omega arith) refl refl refl c.requires.starts) _
          (rw (c.in-Ok.ensures.ok, c.deref-3.ensures.value, c.deref-4.ensures.value) at c.keep_states.ensures);
    } in
    let special : c.special-special.result ≡ special_ids (stride l) c.in_ok-ends.ends (is_marked l) =
    grind (
      arith,
      common_steps,
      c.special-special.ensures,
      c.in_ok-ends.ends,
      c.stride2-2.ensures.value,
      c.starts.ensures,
      c.special.ensures,
    ) in
    subst (IsMinimized l)
    (sym (c.set_special.ensures
    ∙ ap₂ (λ (k : Layout) (x : Special). record k { special = x }) s.joined.rest special))
    (minimized s)

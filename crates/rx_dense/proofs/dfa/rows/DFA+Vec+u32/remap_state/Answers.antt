use Rattle.rx_spec.proofs.Prelude.{common_steps, ◌≡◌, ◌+◌, ◌-◌, ◌∙◌, ap, subst, arith}
use Rattle.rx_base.specs.ByteClasses.{alphabet_len}
use Rattle.rx_dense.specs.Builder.{renamed_id}
use Rattle.rx_dense.specs.Layouts.{Layout, IsShaped}
use Rattle.rx_dense.proofs.Rows.{IsRowId-id}
use Rattle.rx_dense.proofs.Renaming.{RenamedPart, row_renamed, shaped_renamed_row, words_within}
use Rattle.rx_dense.proofs.dfa.rows.DFA+Vec+u32.remap_state.Goals as goal
use borrow.Rule.Slice.PartMut.{put_mid}

pub slice_bounds-rename-end : goal.slice_bounds-rename-end
slice_bounds-rename-end c =
    let l = c.args.self.now in
    let old_words = c.deref_mut.ensures.value ∙ ap (λ (l : Layout). l.words) c.self.view_is in
    let fits = (subst IsShaped c.self.view_is c.self.invariant).rows.fits in
    let below = (IsRowId-id l c.args.id c.requires.is_id).below in
    rw (old_words, c.as_usize-first.ensures.value, c.alphabet_len.ensures) (omega arith)

pub rename-requires-clause-rows : goal.rename-requires-clause-rows
rename-requires-clause-rows c = grind (arith, common_steps, words_within)

pub returns-clause-value : goal.returns-clause-value
returns-clause-value c =
    let l = c.args.self.now in
    let n : c.args.id + alphabet_len l.classes - c.args.id ≡ alphabet_len l.classes = omega arith in
    let fits = (subst IsShaped c.self.view_is c.self.invariant).rows.fits in
    let is = IsRowId-id l c.args.id c.requires.is_id in
    let below = is.below in
    let part : RenamedPart (renamed_id l c.args.map.now) l.words c.rename.new.ids c.args.id (alphabet_len l.classes) =
    record {
      within = omega arith;
      ids =
          rw (
            c.deref_mut.ensures.value ∙ ap (λ (l : Layout). l.words) c.self.view_is,
            c.stride2-stride2.ensures.value,
            c.as_usize-first.ensures.value,
            c.alphabet_len.ensures,
            n,
          ) at c.rename.ensures;
    } in
    grind (arith, common_steps, row_renamed, put_mid c.args.id (alphabet_len l.classes) l.words c.rename.new.ids)

pub returns-clause-rows : goal.returns-clause-rows
returns-clause-rows c = grind (arith, common_steps)

pub invariant_of-self : goal.invariant_of-self
invariant_of-self c = grind (arith, common_steps, returns-clause-value, shaped_renamed_row)

use Rattle.rx_spec.proofs.Prelude.{◌≡◌, ◌∙◌, ap, subst, sym}
use Rattle.std.proofs.lemmas.List.{with_items_is}
use Rattle.rx_dense.specs.Layouts.{IsShaped, Layout}
use Rattle.rx_dense.proofs.KeptRows.{IsKeeping, all_within, kept_shifted, shaped_kept, starts_within, words_kept}
use Rattle.rx_dense.proofs.Renaming.{same_lists}
use Rattle.rx_dense.proofs.dfa.rows.DFA+Vec+u32.keep_states.Goals.{After-stride2-stride2}
use Rattle.rx_dense.proofs.dfa.rows.DFA+Vec+u32.keep_states.Goals as goal

keeping : (c : After-stride2-stride2) → IsKeeping c.args.self.now c.args.rows.now c.args.map.now
keeping c = record {
  two = c.requires.two;
  within = c.requires.within;
  down = c.requires.down;
  count = c.requires.count;
  are_ids = c.requires.ids;
  shaped = subst IsShaped c.self.view_is c.self.invariant;
}

pub move_rows_down-requires-clause-ids : goal.move_rows_down-requires-clause-ids
move_rows_down-requires-clause-ids c =
    let old = c.deref_mut.ensures.value ∙ ap (λ (l : Layout). l.words) c.self.view_is in
    rw (old, c.stride2-stride2.ensures.value)
    (all_within (keeping (goal.at.move_rows_down-requires-clause-ids c).After-stride2-stride2))

pub rename-requires-clause-rows : goal.rename-requires-clause-rows
rename-requires-clause-rows c =
    let old = c.deref_mut-2.ensures.value ∙ ap (λ (l : Layout). l.starts) c.self.view_is in
    rw (old, c.stride2-stride2.ensures.value)
    (starts_within (keeping (goal.at.rename-requires-clause-rows c).After-stride2-stride2))

pub returns : goal.returns
returns c =
    let l = c.args.self.now in
    let k = keeping (goal.at.returns c).After-stride2-stride2 in
    let stride2 = c.stride2-stride2.ensures.value in
    let old_words : c.deref_mut.result.now ≡ l.words =
    c.deref_mut.ensures.value ∙ ap (λ (l : Layout). l.words) c.self.view_is in
    let old_starts : c.deref_mut-2.result.now ≡ l.starts =
    c.deref_mut-2.ensures.value ∙ ap (λ (l : Layout). l.starts) c.self.view_is in
    let moved = rw (old_words, stride2, c.alphabet_len-alphabet_len.ensures) at c.move_rows_down.ensures in
    let all =
    with_items_is c.self.inside.words c.move_rows_down.new.words
    (c.move_rows_down.ensures.length_is ∙ c.deref_mut.ensures.len) in
    let words = rw (all, stride2, kept_shifted k) at c.truncate.ensures.items in
    let starts = rw (old_starts, stride2) at c.rename.ensures in
    let kept_starts =
    with_items_is c.self.inside.starts c.rename.new.ids (c.rename.auto.ids ∙ c.deref_mut-2.ensures.len) in
    same_lists c.self.view_is (words ∙ words_kept k moved) (kept_starts ∙ starts)

pub invariant_of-self : goal.invariant_of-self
invariant_of-self c =
    let stride2 = c.stride2-stride2.ensures.value in
    let old = c.deref_mut.ensures.value ∙ ap (λ (l : Layout). l.words) c.self.view_is in
    let moved = rw (old, stride2, c.alphabet_len-alphabet_len.ensures) at c.move_rows_down.ensures in
    subst IsShaped (sym (returns c)) (shaped_kept (keeping (goal.at.invariant_of-self c).After-stride2-stride2) moved)

use Rattle.rx_spec.proofs.Prelude.{arith, ◌≡◌, ◌∙◌, sym, ap, subst, common_steps}
use Rattle.std.proofs.lemmas.List.{with_items_is}
use Rattle.rx_dense.specs.Builder.{IsMachineRenamed}
use Rattle.rx_dense.specs.Layouts.{Layout, IsShaped}
use Rattle.rx_dense.proofs.Renaming.{machine_renamed, same_lists, shaped_renamed, starts_within, words_renamed}
use Rattle.rx_dense.proofs.Renaming.{words_within}
use Rattle.rx_dense.proofs.dfa.rows.DFA+Vec+u32.remap.Goals as goal

pub rename_rows-requires-clause-rows : goal.rename_rows-requires-clause-rows
rename_rows-requires-clause-rows c = grind (arith, common_steps, words_within)

pub rename-requires-clause-rows : goal.rename-requires-clause-rows
rename-requires-clause-rows c =
    grind (arith, common_steps, starts_within, c.args.self.now, subst IsShaped c.self.view_is c.self.invariant)

pub returns-clause-value : goal.returns-clause-value
returns-clause-value c =
    let l = c.args.self.now in
    let old_words : c.deref_mut.result.now ≡ l.words =
    c.deref_mut.ensures.value ∙ ap (λ (l : Layout). l.words) c.self.view_is in
    let old_starts : c.deref_mut-2.result.now ≡ l.starts =
    c.deref_mut-2.ensures.value ∙ ap (λ (l : Layout). l.starts) c.self.view_is in
    let all =
    rw (old_words, c.stride2-stride2.ensures.value, c.alphabet_len-alphabet_len.ensures) at c.rename_rows.ensures in
    let words = words_renamed l c.args.map.now c.rename_rows.new.words all.count all.entries all.others in
    let starts = rw (old_starts, c.stride2-stride2.ensures.value) at c.rename.ensures in
    let kept_words =
    with_items_is c.self.inside.words c.rename_rows.new.words
    (c.rename_rows.ensures.count ∙ c.deref_mut.ensures.len) in
    let kept_starts =
    with_items_is c.self.inside.starts c.rename.new.ids (c.rename.auto.ids ∙ c.deref_mut-2.ensures.len) in
    same_lists c.self.view_is (kept_words ∙ words) (kept_starts ∙ starts)

pub returns-clause-machine : goal.returns-clause-machine
returns-clause-machine c =
    let l = c.args.self.now in
    subst (λ (new : Layout). IsMachineRenamed l new c.args.map.now) (sym (returns-clause-value c))
    (machine_renamed l c.args.map.now c.requires.count c.requires.ids (subst IsShaped c.self.view_is c.self.invariant))

pub invariant_of-self : goal.invariant_of-self
invariant_of-self c = grind (arith, common_steps, returns-clause-value, shaped_renamed)

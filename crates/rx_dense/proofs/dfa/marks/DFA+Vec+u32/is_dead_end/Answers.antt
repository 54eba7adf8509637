use Rattle.rx_spec.proofs.Prelude.{◌∙◌, sym, ap}
use Rattle.rx_dense.specs.Layouts.{Layout}
use Rattle.rx_dense.proofs.Marks.{zeros_from}
use Rattle.rx_dense.proofs.dfa.marks.DFA+Vec+u32.is_dead_end.Goals as goal

pub returns-in-Some : goal.returns-in-Some
returns-in-Some c dead column within =
    let first = c.as_usize.ensures.value ∙ ap (λ (l : Layout). l.special.min_match) c.self.view_is in
    let row = rw (c.words.ensures.value, first, c.stride.ensures.value, c.alphabet_len.ensures)
    at c.in-Some.ensures.lookup in
    zeros_from _ _ _ row.0.1 (sym (rw row.0.2 at c.are_dead.ensures) ∙ dead) column within

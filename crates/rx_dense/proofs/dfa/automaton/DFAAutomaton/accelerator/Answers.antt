use Rattle.rx_spec.proofs.Prelude.{common_steps, ◌∙◌, ℕ, List, [], get_or, sym, ap, arith}
use Rattle.rx_dense.specs.Layouts.{place_in_range}
use Rattle.rx_dense.proofs.RowKinds.{no_needles, accel_first, accel_place, needles_are}
use Rattle.rx_dense.proofs.AccelLists.{accel_lists_len, accel_lists_at}
use Rattle.rx_dense.proofs.dfa.automaton.DFAAutomaton.accelerator.Goals as goal

pub returns-then-not-is_accel_state : goal.returns-then-not-is_accel_state
returns-then-not-is_accel_state g c = grind (arith, common_steps, no_needles)

pub place_in_range-place-requires : goal.place_in_range-place-requires
place_in_range-place-requires g c = grind (arith, common_steps, accel_first)

pub bounds-accel_words-place : goal.bounds-accel_words-place
bounds-accel_words-place g c = grind (arith, common_steps, accel_place, accel_lists_len)

pub returns : goal.returns
returns g c =
    let l = c.args.self.now in
    let i = place_in_range l l.special.min_accel c.args.id in
    let is_accel = sym (rw c.special.ensures at c.is_accel_state.ensures) ∙ c.if-not-is_accel_state.false in
    let place = accel_place l c.args.id c.requires.is_id c.requires.sound is_accel in
    rw (c.place_in_range-place.ensures, c.special-2.ensures) at c.needles_of.ensures
    ∙ sym (accel_lists_at c.accel_words.result.now i (rw c.accel_words.ensures.value place))
    ∙ ap (λ (xs : List (List ℕ)). get_or xs i []) c.accel_words.ensures.value
    ∙ needles_are l c.args.id c.requires.is_id is_accel

use Rattle.rx_spec.proofs.Prelude.{◌≡◌, ◌∙◌, ℕ, ◌-◌, List, sym, ap, subst, slice_index, next_offset, row_of}
use Rattle.rx_spec.specs.declared.Direction.{Direction}
use Rattle.rx_base.specs.Input.{query_of}
use Rattle.rx_search.specs.Needles.{byte_ahead}
use Rattle.rx_pair.specs.UnderWay.{IsUnderWay}
use Rattle.rx_pair.proofs.UnderWay.{goes_on}
use Rattle.rx_pair.proofs.beside.step.Goals.{in-Forward, in-Reverse}
use Rattle.rx_pair.proofs.beside.step.Goals as goal

pub returns-else-is_special_state : goal.returns-else-is_special_state
returns-else-is_special_state g c =
    let a = g.A.Automaton in
    let t = a.table c.args.dfa.now in
    let ids = a.ids c.args.dfa.now in
    let q = query_of c.args.input.now in
    let d = c.args.direction in
    let from = c.args.from.now.at in
    let same = c.haystack-haystack.ensures in
    let byte : c.match-direction.byte.0 ≡ byte_ahead d q.haystack from =
    elim c.match-direction.branch [
      | in-Forward w ↦ (
          ap (λ (p : ℕ × ℕ). p.0) w.byte-is ∙ ap (λ (hay : List ℕ). slice_index hay from) same
          ∙ ap (λ (d : Direction). byte_ahead d q.haystack from) (sym w.in-Forward.is))
      | in-Reverse w ↦ (
          ap (λ (p : ℕ × ℕ). p.0) w.byte-is ∙ ap (λ (hay : List ℕ). slice_index hay (from - 1)) same
          ∙ ap (λ (d : Direction). byte_ahead d q.haystack from) (sym w.in-Reverse.is))
    ] in
    let at : c.match-direction.byte.1 ≡ next_offset d from =
    elim c.match-direction.branch [
      | in-Forward w ↦ (
          ap (λ (p : ℕ × ℕ). p.1) w.byte-is ∙ ap (λ (d : Direction). next_offset d from) (sym w.in-Forward.is))
      | in-Reverse w ↦ (
          ap (λ (p : ℕ × ℕ). p.1) w.byte-is ∙ ap (λ (d : Direction). next_offset d from) (sym w.in-Reverse.is))
    ] in
    let plain = sym c.is_special_state.ensures ∙ c.if-is_special_state.false in
    let on = goes_on (g.met.A.Automaton.sound c.args.dfa.now c.requires.sound)
    (g.met.A.Automaton.are_ids c.args.dfa.now) d c.requires.from c.requires.fits c.requires.more
    c.next_state-row.result c.next_state-row.ensures.is_id
    (c.next_state-row.ensures.row ∙ ap (t.machine.next (row_of ids c.args.from.now.row)) byte) plain in
    (subst (λ (o : ℕ). IsUnderWay t ids d q c.next_state-row.result o) (sym at) on, at)

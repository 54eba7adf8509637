use Rattle.rx_spec.proofs.Prelude.{common_steps, rules, ◌+◌, ◌∙◌, ◌∷◌, ℕ, List, ap, ap₂, sym, arith, drop}
use Rattle.rx_spec.proofs.Prelude.{slice_index}
use Rattle.rx_dense.specs.States.{starts_of}
use Rattle.rx_dense.proofs.Rows.{id_few}
use Rattle.rx_dense.proofs.States.{starts_of-next}
use Rattle.rx_dense.proofs.dfa.starts.StartStateIterIterator.next.Goals as goal

pub returns-in_err-place-clause-steps : goal.returns-in_err-place-clause-steps
returns-in_err-place-clause-steps g c = grind (arith, common_steps)

pub must-id-requires : goal.must-id-requires
must-id-requires g c =
    rw c.start_ids.ensures.value
    (id_few c.self.inside.dfa.now c.start_ids.ensures.rows _
    (c.start_ids.ensures.starts.start_ids c.in_ok-place.place (omega (arith, c.in_ok-place.ensures.steps.1))))

pub returns-clause-steps : goal.returns-clause-steps
returns-clause-steps g c =
    let l = c.self.inside.dfa.now in
    let ids = c.start_ids.ensures in
    let next = c.in_ok-place.ensures.steps.1 in
    sym c.self.view_is
    ∙ ap (λ at. drop at (starts_of l)) (sym next.1)
    ∙ starts_of-next l ids.starts c.in_ok-place.place (omega arith) c.mode_of_group.result c.context_of_number.result
    c.mode_of_group.ensures c.context_of_number.ensures
    ∙ ap₂ (λ (id at : ℕ). (id, c.mode_of_group.result, c.context_of_number.result) ∷ drop at (starts_of l))
    (sym (c.must-id.ensures ∙ ap (λ (ids : List ℕ). slice_index ids c.in_ok-place.place) ids.value))
    (ap (λ n. n + 1) next.1 ∙ sym next.2)

pub returns-clause-goes : goal.returns-clause-goes
returns-clause-goes g c = rw (returns-clause-steps g c) (search rules)

use Rattle.rx_spec.proofs.Prelude.{arith, sym, subst, common_steps, leb-true}
use Rattle.rx_dense.specs.Layouts.{IsShaped}
use Rattle.rx_dense.proofs.Marks.{HasMarks, found, mark_first, mark_final}
use Rattle.rx_dense.proofs.RowKinds.{match_first}
use Rattle.rx_dense.proofs.dfa.DFA.mark.Goals as goal

pub place_in_range-place-requires : goal.place_in_range-place-requires
place_in_range-place-requires g c = grind (arith, common_steps, match_first)

pub must-requires : goal.must-requires
must-requires g c =
    let l = c.args.self.now in
    let marks = g.T.WordStore.list c.self.inside.marks in
    let f = found l marks c.args.id (rw c.special.ensures at c.place_in_range-place.ensures) c.words.ensures
    (sym c.in-Some.ensures.lookup.0) c.in-Some.ensures.lookup.1 in
    rw f.mark_is (((subst (λ l. HasMarks l marks) c.self.view_is c.self.inside.marked).each) _ f.has).is_pattern

pub returns-in-Some-clause-first : goal.returns-in-Some-clause-first
returns-in-Some-clause-first g c =
    let l = c.args.self.now in
    let marks = g.T.WordStore.list c.self.inside.marks in
    let shaped = subst IsShaped c.self.view_is c.self.invariant in
    let f = found l marks c.args.id (rw c.special.ensures at c.place_in_range-place.ensures) c.words.ensures
    (sym c.in-Some.ensures.lookup.0) c.in-Some.ensures.lookup.1 in
    grind (arith, common_steps, mark_first, (subst (λ l. HasMarks l marks) c.self.view_is c.self.inside.marked))

pub returns-in-Some-clause-ends : goal.returns-in-Some-clause-ends
returns-in-Some-clause-ends g c final = grind (arith, common_steps, found, mark_final, leb-true)

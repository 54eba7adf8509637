use Rattle.rx_spec.proofs.Prelude.{◌∙◌, sym}
use Rattle.rx_stepper.proofs.Prelude.{meaning}
use Rattle.rx_stepper.proofs.StampedSearch.{itself_there}
use Rattle.rx_stepper.proofs.ThinLists.{thin_found}
use Rattle.rx_stepper.proofs.closures.Closures.stops.Goals as goal

pub returns-in-Some-clause-itself : goal.returns-in-Some-clause-itself
returns-in-Some-clause-itself c = λ ends.
    let self = c.args.self.now in
    let nfa = self.nfa.now in
    let q = c.args.row in
    let there = c.in-Some.ensures.lookup in
    let is = thin_found self.thin.items c.deref.ensures.value c.as_usize.ensures.value there.0 there.1 in
    itself_there (meaning nfa).rows nfa.shallow q _ (self.thin_rows q) is (sym c.is_end.ensures ∙ ends)

use Rattle.rx_spec.proofs.Prelude.{◌∷◌, ap, refl, rules, sym, ◌∙◌, Ok, join}
use Rattle.rx_base.specs.Searcher.{Search}
use Rattle.rx_pair.specs.Matches.{items, matches_left}
use Rattle.rx_pair.proofs.Iterated.{ended, next_match, no_match}
use Rattle.rx_pair.proofs.find_matches.FindMatchesIterator.next.Goals as goal

pub returns-in-Ok-Some-clause-steps : goal.returns-in-Ok-Some-clause-steps
returns-in-Ok-Some-clause-steps g c =
    let f = g.A.Automaton.table c.self.inside.regex.now.forward in
    let r = g.A.Automaton.table c.self.inside.regex.now.reverse in
    let m = c.in-Ok-Some.found in
    let told = sym c.in-Ok-Some.ensures.told ∙ ap Ok c.in-Ok-Some.field-0-is in
    sym c.self.view_is
    ∙ rw c.if-self.false
    (next_match f r c.self.inside.searcher m told
    ∙ ap (λ (s : Search). Ok m ∷ items (matches_left (join f r) s))
    (sym (rw c.in-Ok-Some.field-0-is at c.in-Ok-Some.ensures.left)))

pub returns-in-Ok-Some-clause-goes : goal.returns-in-Ok-Some-clause-goes
returns-in-Ok-Some-clause-goes g c = rw (returns-in-Ok-Some-clause-steps g c) (search rules)

pub returns-in-Ok-None-clause-steps : goal.returns-in-Ok-None-clause-steps
returns-in-Ok-None-clause-steps g c =
    let f = g.A.Automaton.table c.self.inside.regex.now.forward in
    let r = g.A.Automaton.table c.self.inside.regex.now.reverse in
    let told = sym c.in-Ok-None.ensures.told ∙ ap Ok c.in-Ok-None.field-0-is in
    (sym c.self.view_is ∙ rw c.if-self.false (no_match f r c.self.inside.searcher told), refl)

pub returns-in-Err-clause-steps : goal.returns-in-Err-clause-steps
returns-in-Err-clause-steps g c =
    let f = g.A.Automaton.table c.self.inside.regex.now.forward in
    let r = g.A.Automaton.table c.self.inside.regex.now.reverse in
    sym c.self.view_is
    ∙ rw c.if-self.false (ended f r c.self.inside.searcher c.in-Err.error (sym c.in-Err.ensures.told))

pub returns-in-Err-clause-goes : goal.returns-in-Err-clause-goes
returns-in-Err-clause-goes g c = rw (returns-in-Err-clause-steps g c) (search rules)

use Rattle.rx_spec.proofs.Prelude.{sym, ◌∙◌, subst, arith, refl}
use Rattle.rx_search.proofs.Walks.{bytes_of}
use Rattle.rx_scan.specs.Starts.{AreStarts}
use Rattle.rx_scan.proofs.StartsKept.{IsBehind, start_behind, start_kept}
use Rattle.rx_scan.proofs.starts.Starts.at.Given as given
use Rattle.rx_scan.proofs.starts.Starts.at.Goals.{After-index-self-byte}
use Rattle.rx_scan.proofs.starts.Starts.at.Goals as goal

-- the place of the token is behind a byte
place : (g : given.Over) (c : After-index-self-byte g) → IsBehind c.args.text.now c.self.inside.ids c.args.from
place g c = record {
  past = c.if-from-eq0.false;
  within = c.requires.within;
  bytes = bytes_of c.args.text.now c.args.text.now refl (λ k. omega (arith, c.type_inv.text k));
  whole = c.self.inside.len;
}

pub returns-then-ne-clause-start : goal.returns-then-ne-clause-start
returns-then-ne-clause-start g c =
    let t = g.A.Automaton.table c.args.table.now in
    let ids = g.A.Automaton.ids c.args.table.now in
    start_behind t ids (place g (goal.at.returns-then-ne-clause-start g c).After-index-self-byte)
    (subst (AreStarts t ids) (sym c.self.view_is) c.requires.starts) c.index-self-byte.result
    (sym c.ne.ensures ∙ c.if-ne.true)

pub returns-in-Ok-clause-starts : goal.returns-in-Ok-clause-starts
returns-in-Ok-clause-starts g c =
    let t = g.A.Automaton.table c.args.table.now in
    let ids = g.A.Automaton.ids c.args.table.now in
    start_kept t ids (place g (goal.at.returns-in-Ok-clause-starts g c).After-index-self-byte)
    (subst (AreStarts t ids) (sym c.self.view_is) c.requires.starts) c.in-Ok.id c.in-Ok.ensures

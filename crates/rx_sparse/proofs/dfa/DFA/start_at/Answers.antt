use Rattle.rx_spec.proofs.Prelude.{◌<◌, length, sym, subst}
use Rattle.rx_sparse.specs.Layouts.{Stored}
use Rattle.rx_sparse.proofs.RowPlaces.{start_is, start_small, start_within}
use Rattle.rx_sparse.proofs.dfa.DFA.start_at.Goals as goal

pub word_at-requires : goal.word_at-requires
word_at-requires g c =
    let h = subst (λ (s : Stored). c.args.i < length s.layout.starts) (sym c.self.view_is) c.requires in
    rw c.bytes.ensures (start_within c.self.inside.parts _ _ c.self.invariant c.args.i h)

pub must-requires : goal.must-requires
must-requires g c =
    let h = subst (λ (s : Stored). c.args.i < length s.layout.starts) (sym c.self.view_is) c.requires in
    rw (c.word_at.ensures, c.bytes.ensures) (start_small c.self.inside.parts _ _ c.self.invariant c.args.i h)

pub returns : goal.returns
returns g c =
    let h = subst (λ (s : Stored). c.args.i < length s.layout.starts) (sym c.self.view_is) c.requires in
    rw (c.must.ensures, c.word_at.ensures, c.bytes.ensures, ← c.self.view_is)
    (start_is c.self.inside.parts _ _ c.self.invariant c.args.i h)

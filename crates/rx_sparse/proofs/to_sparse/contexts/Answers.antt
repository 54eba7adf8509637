use Rattle.rx_spec.proofs.Prelude.{◌∙◌, sym, arith, ext_get_or}
use Rattle.rx_spec.specs.declared.Start.{Start}
use Rattle.rx_sparse.proofs.to_sparse.contexts.Goals as goal

pub returns : goal.returns
returns g c =
    ext_get_or Start.NonWordByte c.loop-byte.contexts c.args.dfa.now.contexts
    (c.loop-byte.invariant.len ∙ sym c.requires.contexts)
    (λ k h. c.loop-byte.invariant.each k (omega (arith, h, c.loop-byte.invariant.len, c.loop-byte-test.false)))

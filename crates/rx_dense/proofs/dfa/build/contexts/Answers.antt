use Rattle.rx_spec.proofs.Prelude.{◌≡◌, ◌∙◌, ap, sym, subst, get_or, arith, slice_set, fill_by_all, start_of_byte}
use Rattle.std.proofs.lemmas.List.{length-set}
use Rattle.std.proofs.lemmas.List.Edits.{fill_by_more}
use Rattle.rx_spec.specs.declared.Start.{Start}
use Rattle.rx_dense.proofs.dfa.build.contexts.Goals as goal

pub loop-byte-preserved : goal.loop-byte-preserved
loop-byte-preserved c =
    let f = start_of_byte c.args.lookm.now in
    let inv = c.loop-byte.invariant in
    let value : c.get.result ≡ f c.loop-byte.byte =
    c.get.ensures ∙ ap (λ t. start_of_byte t c.loop-byte.byte) inv.1 in (
      length-set c.loop-byte.contexts c.loop-byte.byte c.get.result ∙ inv.0,
      inv.1,
      λ k h.
          subst (λ (v : Start). get_or (slice_set c.loop-byte.contexts c.loop-byte.byte v) k Start.NonWordByte ≡ f k)
          (sym value)
          (fill_by_more f c.loop-byte.contexts c.loop-byte.byte Start.NonWordByte (omega arith) inv.2 k h),
    )

pub returns : goal.returns
returns c =
    fill_by_all (start_of_byte c.args.lookm.now) c.loop-byte.contexts 256 Start.NonWordByte c.loop-byte.invariant.0
    (λ k h. c.loop-byte.invariant.2 k (omega arith))

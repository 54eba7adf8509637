use Rattle.rx_spec.proofs.Prelude.{◌≡◌, ℕ, get_or, map, refl, sym, ap, ◌∙◌, arith, range_with_len, fill_by_all, map-map}
use Rattle.rx_spec.specs.declared.Start.{Start}
use Rattle.rx_dense.specs.Layouts.{context_number}
use Rattle.rx_dense_image.proofs.put.context_numbers.Goals as goal

pub returns-clause-value : goal.returns-clause-value
returns-clause-value g c =
    let contexts = c.args.dfa.now.contexts in
    let at : ℕ → Start = λ k. get_or contexts k Start.NonWordByte in
    let in_order : contexts ≡ map at (range_with_len 0 256) =
    fill_by_all at contexts 256 Start.NonWordByte c.requires.contexts (λ k lt. refl) in
    fill_by_all (λ k. context_number (at k)) c.loop-byte.numbers 256 0 c.loop-byte.invariant.len
    (λ k lt. c.loop-byte.invariant.each k (omega arith))
    ∙ sym (ap (map context_number) in_order ∙ map-map context_number at (range_with_len 0 256))

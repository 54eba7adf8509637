use Rattle.rx_spec.proofs.Prelude.{◌≡◌, ℕ, ◌+◌, ◌<◌, List, length, get_or, map, slice_index, refl, sym, ap, subst, ◌∙◌}
use Rattle.rx_spec.proofs.Prelude.{arith, range_with_len, fill_by_all, map-map, set}
use Rattle.std.proofs.lemmas.List.Edits.{fill_by_more}
use Rattle.std.proofs.Math.ListN.{length-set}
use Rattle.rx_spec.specs.declared.Start.{Start}
use Rattle.rx_image_parts.specs.StartTables.{context_of}
use Rattle.rx_image_parts.proofs.start_table.contexts_of.Goals as goal

abbrev of_place : List ℕ → ℕ → Start
of_place numbers k = context_of (slice_index numbers k)

pub loop-byte-preserved : goal.loop-byte-preserved
loop-byte-preserved c =
    let byte : ℕ = c.loop-byte.byte in
    let contexts = c.loop-byte.contexts in
    let lt : byte < length contexts = omega arith in
    record {
      len = simp length-set c.loop-byte.invariant.len;
      each =
          subst
          (λ (x : Start).
          (k : ℕ) → k < byte + 1 → get_or (set contexts byte x) k Start.NonWordByte ≡ of_place c.args.numbers.now k)
          (sym c.context_of.ensures)
          (fill_by_more (of_place c.args.numbers.now) contexts byte Start.NonWordByte lt c.loop-byte.invariant.each);
    }

pub returns : goal.returns
returns c =
    let numbers = c.args.numbers.now in
    let in_order : numbers ≡ map (λ k. slice_index numbers k) (range_with_len 0 256) =
    fill_by_all (λ k. slice_index numbers k) numbers 256 0 c.requires (λ k lt. refl) in
    fill_by_all (of_place numbers) c.loop-byte.contexts 256 Start.NonWordByte c.loop-byte.invariant.len
    (λ k lt. c.loop-byte.invariant.each k (omega arith))
    ∙ sym (ap (map context_of) in_order ∙ map-map context_of (λ k. slice_index numbers k) (range_with_len 0 256))

use Rattle.rx_spec.proofs.Prelude.{◌≡◌, ℕ, ◌<◌, length, slice_index}
use Rattle.rx_image_parts.specs.Words.{word_at}
use Rattle.rx_image_parts.proofs.words.words_of.Given as goal

abbrev pub invariant-loop-i : goal.invariant-loop-i
invariant-loop-i l = record {
  len : length l.words.items ≡ l.count;
  words : (k : ℕ) → k < l.i → slice_index l.words.items k ≡ word_at l.order l.bytes k;
}

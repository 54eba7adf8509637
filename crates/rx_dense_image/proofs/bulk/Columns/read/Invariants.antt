use Rattle.rx_spec.proofs.Prelude.{◌≡◌, ℕ, ◌+◌, ◌-◌, ◌%◌, ◌^◌, ◌<◌, ◌≤◌, length, slice_index, vec_capacity}
use Rattle.rx_image_parts.specs.Below.{each_below}
use Rattle.rx_dense_image.specs.Bulk.{is_clean, kept_word, word_stands}
use Rattle.rx_dense_image.proofs.bulk.Columns.read.Given as goal

abbrev pub invariant-rounds : goal.invariant-rounds
invariant-rounds l = record {
  within : l.at ≤ l.count;
  begins : l.at < l.count → l.at % length l.self.kept.now ≡ 0;
  room : l.count ≤ vec_capacity l.words;
  len : length l.words.items ≡ l.at;
  words : (k : ℕ) → k < l.at → slice_index l.words.items k ≡ kept_word l.self l.bytes k;
  clean : (s last : ℕ) → is_clean (2 ^ s) last l.wrong ≡ each_below l.at (word_stands s last l.self l.bytes);
}

abbrev pub decreases-rounds : goal.decreases-rounds
decreases-rounds l = l.count - l.at

abbrev pub invariant-columns : goal.invariant-columns
invariant-columns l = record {
  room : l.count ≤ vec_capacity l.words;
  len : length l.words.items ≡ l.at + l.column;
  words : (k : ℕ) → k < l.at + l.column → slice_index l.words.items k ≡ kept_word l.self l.bytes k;
  clean : (s last : ℕ) → is_clean (2 ^ s) last l.wrong
      ≡ each_below (l.at + l.column) (word_stands s last l.self l.bytes);
}

use Rattle.rx_spec.proofs.Prelude.{◌≡◌, ◌+◌, ◌*◌, length, take}
use Rattle.rx_image_parts.specs.Words.{words_text}
use Rattle.rx_image_parts.specs.Written.{IsPut}
use Rattle.rx_dense_image.proofs.put.put_words.Given as goal

abbrev pub invariant-loop-word : goal.invariant-loop-word
invariant-loop-word g l = record {
  len : length l.dst ≡ length l.initial.dst;
  place : l.end ≡ l.at + 4 * l.word-index;
  put : IsPut (words_text g.E.Endian.order (take l.word-index l.words)) l.initial.dst l.dst l.at l.end;
}

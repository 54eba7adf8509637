use Rattle.rx_spec.proofs.Prelude.{◌≡◌, ◌+◌, ◌*◌, ◌/◌, length, take}
use Rattle.rx_image_parts.specs.Words.{words_text}
use Rattle.rx_image_parts.specs.Written.{IsPut}
use Rattle.rx_sparse.specs.Rows.{words_in}
use Rattle.rx_sparse_image.proofs.turned.put_words.Given as goal

abbrev pub invariant-loop-i : goal.invariant-loop-i
invariant-loop-i g l = record {
  len : length l.dst ≡ length l.fn.dst;
  place : l.end ≡ l.at + 4 * l.i;
  put : IsPut (words_text g.E.Endian.order (take l.i (words_in l.order (length l.words / 4) l.words)))
      l.fn.dst l.dst l.at l.end;
}

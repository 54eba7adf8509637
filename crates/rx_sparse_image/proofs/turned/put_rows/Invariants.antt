use Rattle.rx_spec.proofs.Prelude.{◌≡◌, ◌+◌, drop, length, take}
use Rattle.rx_image_parts.specs.Written.{IsPut}
use Rattle.rx_sparse.specs.Rows.{rows_in, rows_len, rows_text}
use Rattle.rx_sparse_image.proofs.turned.put_rows.Given as goal

abbrev pub invariant-loop : goal.invariant-loop
invariant-loop g l = record {
  len : length l.dst ≡ length l.fn.dst;
  place : l.end ≡ l.at + rows_len (take l.counter (rows_in l.order l.count l.bytes));
  rest : l.rest ≡ drop (rows_len (take l.counter (rows_in l.order l.count l.bytes))) l.bytes;
  put : IsPut (rows_text g.E.Endian.order (take l.counter (rows_in l.order l.count l.bytes)))
      l.fn.dst l.dst l.at l.end;
}

use Rattle.rx_spec.proofs.Prelude.{common_steps, ℕ, drop, ap, ◌∙◌, arith}
use Rattle.rx_image_parts.proofs.Behind.{and_then, put_same}
use Rattle.rx_sparse.specs.Rows.{row_in, row_len, row_text, rows_len}
use Rattle.rx_sparse.proofs.RowPlaces.{length-rows_in}
use Rattle.rx_sparse_image.proofs.Pieces.{next_len, next_there, place_within, rows_more, rows_size, whole_there}
use Rattle.rx_sparse_image.proofs.turned.put_rows.Goals as goal

pub put_row-requires-clause-whole : goal.put_row-requires-clause-whole
put_row-requires-clause-whole g c = grind (arith, common_steps, whole_there)

pub put_row-requires-clause-fits : goal.put_row-requires-clause-fits
put_row-requires-clause-fits g c = grind (arith, common_steps, place_within)

pub loop-init : goal.loop-init
unfolding rows_len
loop-init g c = grind (arith, common_steps)

pub loop-preserved : goal.loop-preserved
loop-preserved g c =
    let order = c.args.order in
    let bytes = c.args.bytes.now in
    let i : ℕ = c.loop.counter in
    let are = c.requires.rows in
    let here = c.loop.invariant.rest in
    let same = ap (λ t. row_len (row_in order t)) here in
    record {
      len = omega arith;
      place = omega (arith, next_len order c.args.count bytes are i (omega arith) c.args.at);
      rest =
          c.put_row.ensures.rest
          ∙ ap (λ t. drop (row_len (row_in order t)) t) here
          ∙ next_there order c.args.count bytes are i (omega arith);
      put =
          put_same (rows_more order c.args.count bytes are i (omega arith) g.E.Endian.order)
          (and_then c.loop.invariant.put
          (put_same (ap (λ t. row_text g.E.Endian.order (row_in order t)) here) c.put_row.ensures.put));
    }

pub returns-clause-place : goal.returns-clause-place
returns-clause-place g c = grind (arith, common_steps, length-rows_in, rows_size)

pub returns-clause-put : goal.returns-clause-put
returns-clause-put g c = grind (arith, common_steps, length-rows_in)

use Rattle.rx_spec.proofs.Prelude.{common_steps, ◌/◌, length, ap, ◌∙◌, arith, w16}
use Rattle.rx_wire.specs.Fields.{field}
use Rattle.rx_image_parts.proofs.Behind.{and_then, put_same}
use Rattle.rx_sparse.specs.Rows.{row_in, words_in, words_text}
use Rattle.rx_sparse_image.proofs.Pieces.{ids_turned, patterns_turned, patterns_whole, row_sizes, words_whole}
use Rattle.rx_sparse_image.proofs.turned.put_row.Goals as goal

pub put_plain-end-requires : goal.put_plain-end-requires
put_plain-end-requires g c = grind (arith, common_steps, row_sizes c.args.order (row_in c.args.order c.args.bytes.now))

pub put_words-end-requires-clause-whole : goal.put_words-end-requires-clause-whole
put_words-end-requires-clause-whole g c = grind (arith, common_steps, words_whole)

pub put_words-end-requires-clause-fits : goal.put_words-end-requires-clause-fits
put_words-end-requires-clause-fits g c =
    grind (arith, common_steps, row_sizes c.args.order (row_in c.args.order c.args.bytes.now))

pub put_words-end-requires-2-clause-whole : goal.put_words-end-requires-2-clause-whole
put_words-end-requires-2-clause-whole g c = grind (arith, common_steps, patterns_whole)

pub put_words-end-requires-2-clause-fits : goal.put_words-end-requires-2-clause-fits
put_words-end-requires-2-clause-fits g c =
    grind (arith, common_steps, row_sizes c.args.order (row_in c.args.order c.args.bytes.now))

pub put_plain-requires : goal.put_plain-requires
put_plain-requires g c = grind (arith, common_steps, row_sizes c.args.order (row_in c.args.order c.args.bytes.now))

pub returns-clause-place : goal.returns-clause-place
returns-clause-place g c = grind (arith, common_steps, row_sizes c.args.order (row_in c.args.order c.args.bytes.now))

pub returns-clause-put : goal.returns-clause-put
returns-clause-put g c =
    let order = c.args.order in
    let other = g.E.Endian.order in
    and_then (put_same (ap (field other w16) c.split_parts.ensures.head) c.put_half-end.ensures.put)
    (and_then (put_same c.split_parts.ensures.ends c.put_plain-end.ensures.put)
    (and_then
    (put_same
    (ap (λ t. words_text other (words_in order (length t / 4) t)) c.split_parts.ensures.next_ids
    ∙ ids_turned order other (row_in order c.args.bytes.now) c.requires.whole.fits)
    c.put_words-end.ensures.put)
    (and_then
    (put_same
    (ap (λ t. words_text other (words_in order (length t / 4) t)) c.split_parts.ensures.patterns
    ∙ patterns_turned order other (row_in order c.args.bytes.now) c.requires.whole.fits)
    c.put_words-end-2.ensures.put)
    (put_same c.split_parts.ensures.needles c.put_plain.ensures.put))))

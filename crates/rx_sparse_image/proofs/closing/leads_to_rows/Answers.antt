use Rattle.rx_spec.proofs.Prelude.{◌≡◌, ◌/◌, true, length, sym, ap, ◌∙◌, arith, rules, below_more}
use Rattle.rx_sparse.specs.Layouts.{Layout}
use Rattle.rx_sparse.specs.Rows.{word_at}
use Rattle.rx_sparse_image.specs.Closing.{is_row_id}
use Rattle.rx_sparse_image.specs.Reading.{image_layout}
use Rattle.rx_image_parts.proofs.EachBelow.{all_of, not_all}
use Rattle.rx_sparse_image.proofs.PartsOfRows.{all_next, id_within}
use Rattle.rx_sparse_image.proofs.closing.leads_to_rows.Goals as goal

pub next_id-requires : goal.next_id-requires
next_id-requires c = id_within c.requires.parts c.loop-i.i (omega arith)

pub loop-i-preserved : goal.loop-i-preserved
loop-i-preserved c = λ marks.
    let l : Layout = image_layout c.args.image.now in
    below_more (λ k. is_row_id l (word_at c.args.image.now.parts.order c.args.row.now.next_ids.now k) ≡ true) c.loop-i.i
    (c.loop-i.invariant marks)
    (ap (is_row_id l) (sym c.next_id.ensures) ∙ sym (marks c.next_id.result) ∙ sym c.has.ensures ∙ (search rules))

pub returns-then-not-has : goal.returns-then-not-has
returns-then-not-has c = λ marks.
    let l : Layout = image_layout c.args.image.now in
    let p = c.args.row.now in
    sym (all_next c.requires.parts (is_row_id l)
    ∙ not_all (length p.ends.now / 2) (λ k. is_row_id l (word_at c.args.image.now.parts.order p.next_ids.now k))
    c.loop-i.i (omega arith)
    (ap (is_row_id l) (sym c.next_id.ensures) ∙ sym (marks c.next_id.result) ∙ sym c.has.ensures ∙ (search rules)))

pub returns : goal.returns
returns c = λ marks.
    let l : Layout = image_layout c.args.image.now in
    let p = c.args.row.now in
    sym (all_next c.requires.parts (is_row_id l)
    ∙ all_of (length p.ends.now / 2) (λ k. is_row_id l (word_at c.args.image.now.parts.order p.next_ids.now k))
    (λ k lt. c.loop-i.invariant marks k (omega arith)))

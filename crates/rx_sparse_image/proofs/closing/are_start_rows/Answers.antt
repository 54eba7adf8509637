use Rattle.rx_spec.proofs.Prelude.{◌≡◌, ℕ, ◌/◌, true, length, sym, ap, ◌∙◌, arith, rules, below_more, range_with_len}
use Rattle.rx_spec.proofs.Prelude.{list_all-map}
use Rattle.rx_sparse.specs.Layouts.{Layout}
use Rattle.rx_sparse.specs.Rows.{word_at}
use Rattle.rx_sparse_image.specs.Closing.{is_start_row}
use Rattle.rx_sparse_image.specs.Reading.{image_layout}
use Rattle.rx_image_parts.proofs.EachBelow.{all_of, not_all}
use Rattle.rx_sparse_image.proofs.closing.are_start_rows.Goals as goal

pub loop-i-preserved : goal.loop-i-preserved
loop-i-preserved c = λ marks.
    let image = c.args.image.now in
    let stands : c.is_start_row.result ≡ true = search rules in
    below_more (λ k. is_start_row (image_layout image) (word_at image.parts.order image.starts.now k) ≡ true) c.loop-i.i
    (c.loop-i.invariant marks)
    (ap (is_start_row (image_layout image)) (sym c.word_at-id.ensures) ∙ sym (c.is_start_row.ensures marks) ∙ stands)

pub returns-then-not-is_start_row : goal.returns-then-not-is_start_row
returns-then-not-is_start_row c = λ marks.
    let image = c.args.image.now in
    let l : Layout = image_layout image in
    let n : ℕ = length image.starts.now / 4 in
    sym (list_all-map (is_start_row l) (word_at image.parts.order image.starts.now) (range_with_len 0 n)
    ∙ not_all n (λ k. is_start_row l (word_at image.parts.order image.starts.now k)) c.loop-i.i (omega arith)
    (ap (is_start_row l) (sym c.word_at-id.ensures) ∙ sym (c.is_start_row.ensures marks) ∙ (search rules)))

pub returns : goal.returns
returns c = λ marks.
    let image = c.args.image.now in
    let l : Layout = image_layout image in
    let n : ℕ = length image.starts.now / 4 in
    sym (list_all-map (is_start_row l) (word_at image.parts.order image.starts.now) (range_with_len 0 n)
    ∙ all_of n (λ k. is_start_row l (word_at image.parts.order image.starts.now k))
    (λ k lt. c.loop-i.invariant marks k (omega arith)))

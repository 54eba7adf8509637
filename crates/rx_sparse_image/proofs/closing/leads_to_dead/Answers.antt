use Rattle.rx_spec.proofs.Prelude.{◌/◌, ◌==◌, length, sym, ◌∙◌, arith, ne_eqb}
use Rattle.rx_sparse.specs.Rows.{word_at}
use Rattle.rx_image_parts.proofs.EachBelow.{all_of, not_all}
use Rattle.rx_sparse_image.proofs.PartsOfRows.{all_next, id_within}
use Rattle.rx_sparse_image.proofs.closing.leads_to_dead.Goals as goal

pub next_id-requires : goal.next_id-requires
next_id-requires c = id_within c.requires c.loop-i.i (omega arith)

pub returns-then-next_id-ne0 : goal.returns-then-next_id-ne0
returns-then-next_id-ne0 c =
    let p = c.args.row.now in
    sym (all_next c.requires (λ id. id == 0)
    ∙ not_all (length p.ends.now / 2) (λ k. word_at c.args.image.now.parts.order p.next_ids.now k == 0) c.loop-i.i
    (omega arith) (ne_eqb _ 0 (λ e. c.if-next_id-ne0.true (c.next_id.ensures ∙ e))))

pub returns : goal.returns
returns c =
    let p = c.args.row.now in
    sym (all_next c.requires (λ id. id == 0)
    ∙ all_of (length p.ends.now / 2) (λ k. word_at c.args.image.now.parts.order p.next_ids.now k == 0)
    (λ k lt. c.loop-i.invariant k (omega arith)))

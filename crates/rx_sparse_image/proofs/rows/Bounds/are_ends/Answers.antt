use Rattle.rx_spec.proofs.Prelude.{common_steps, ◌-◌, ◌*◌, ◌==◌, ◌&&◌, slice_index, sym, ap, ◌∙◌, arith, rules}
use Rattle.rx_image_parts.proofs.EachBelow.{all_of, not_all}
use Rattle.rx_sparse_image.specs.Walks.{is_range_at}
use Rattle.rx_sparse_image.proofs.rows.Bounds.are_ends.Goals as goal

pub loop-i-preserved : goal.loop-i-preserved
loop-i-preserved c = grind (arith, common_steps)

pub returns-then-not-is_range_at : goal.returns-then-not-is_range_at
returns-then-not-is_range_at c =
    let ends = c.args.ends.now in
    sym (
    ap (λ b. b && (slice_index ends (2 * c.args.count - 2) == 0) && (slice_index ends (2 * c.args.count - 1) == 0))
    (not_all (c.args.count - 1) (is_range_at c.args.self.now.last_class ends) c.loop-i.i (omega arith)
    (sym c.is_range_at.ensures ∙ (search rules)))
    )

pub returns : goal.returns
returns c =
    let ends = c.args.ends.now in
    c.is_end_mark.ensures
    ∙ sym (
    ap (λ b. b && (slice_index ends (2 * c.args.count - 2) == 0) && (slice_index ends (2 * c.args.count - 1) == 0))
    (all_of (c.args.count - 1) (is_range_at c.args.self.now.last_class ends)
    (λ k lt. c.loop-i.invariant k (omega arith)))
    )

use Rattle.rx_spec.proofs.Prelude.{common_steps, ◌/◌, length, sym, ◌∙◌, arith, rules}
use Rattle.rx_dense.specs.Parts.{layout_of}
use Rattle.rx_dense_image.specs.Closing.{is_list}
use Rattle.rx_image_parts.proofs.EachBelow.{all_of, not_all}
use Rattle.rx_dense_image.proofs.closing.are_lists.Goals as goal

pub loop-i-preserved : goal.loop-i-preserved
loop-i-preserved c = grind (arith, common_steps)

pub returns-then-not-is_list : goal.returns-then-not-is_list
returns-then-not-is_list c =
    let l = layout_of c.args.parts.now in
    sym (not_all (length l.slices / 2) (is_list l) c.loop-i.i (omega arith) (sym c.is_list.ensures ∙ (search rules)))

pub returns : goal.returns
returns c = grind (arith, common_steps, all_of)

use Rattle.rx_spec.proofs.Prelude.{ap, refl}
use Rattle.rx_image_parts.specs.Heads.{head_text}
use Rattle.rx_dense_image.specs.Heads.{dense_label}
use Rattle.rx_dense_image.specs.Images.{text}
use Rattle.rx_image_parts.proofs.Behind.{and_then, put_same}
use Rattle.rx_dense_image.proofs.put.put_image.Goals as goal

pub returns-clause-put : goal.returns-clause-put
unfolding text
returns-clause-put g c =
    and_then
    (put_same (ap (head_text g.E.Endian.order dense_label) c.flags.ensures) c.put_head-head.ensures.put)
    (and_then c.put_rows-rows.ensures.put
    (and_then c.put_start_table-starts.ensures.put
    (and_then c.put_pattern_lists-lists.ensures.put c.put_marks.ensures.put)))

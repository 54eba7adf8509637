use Rattle.rx_spec.proofs.Prelude.{ap, refl}
use Rattle.rx_image_parts.specs.Heads.{head_text}
use Rattle.rx_image_parts.specs.QuitBytes.{quit_text}
use Rattle.rx_image_parts.specs.SpecialIds.{special_text}
use Rattle.rx_image_parts.proofs.Behind.{and_then, put_same}
use Rattle.rx_sparse_image.specs.Images.{sparse_label, text}
use Rattle.rx_sparse_image.proofs.put.put_image.Goals as goal

pub returns-clause-put : goal.returns-clause-put
unfolding text
returns-clause-put g c =
    let order = g.E.Endian.order in
    and_then
    (put_same (ap (head_text order sparse_label) c.flags.ensures) c.put_head-head.ensures.put)
    (and_then c.put_row_bytes-rows.ensures.put
    (and_then c.put_start_table-starts.ensures.put
    (and_then (put_same (ap (special_text order) c.special.ensures) c.put_special-special.ensures.put)
    (put_same (ap (quit_text order) c.quitset.ensures) c.put_quit.ensures.put))))

use Rattle.rx_spec.proofs.Prelude.{refl, arith, w16}
use Rattle.rx_wire.specs.Fields.{field}
use Rattle.rx_wire.proofs.Fields.{length-field_16}
use Rattle.rx_wire.proofs.Behind.{put_behind, stands_more}
use Rattle.rx_image_parts.proofs.Behind.{put_up_to}
use Rattle.rx_sparse_image.proofs.turned.put_half.Goals as goal

pub returns-clause-put : goal.returns-clause-put
returns-clause-put g c =
    put_up_to refl
    (stands_more
    (put_behind c.args.dst.now c.write_u16.new.dst (field g.E.Endian.order w16 c.args.number) c.args.at _
    (omega arith) (length-field_16 g.E.Endian.order c.args.number) c.write_u16.ensures))

use Rattle.rx_image_parts.proofs.Behind.{and_then, put_same}
use Rattle.rx_image_parts.proofs.put.put_quit.Goals as goal
use Rattle.rx_wire.specs.Fields.{field}
use Rattle.rx_spec.proofs.Prelude.{ap, w128, arith}

pub returns-clause-put : goal.returns-clause-put
returns-clause-put g c =
    and_then (put_same (ap (field g.E.Endian.order w128) (omega arith)) c.put_wide-end.ensures.put)
    (put_same (ap (field g.E.Endian.order w128) (omega (arith, c.put_wide-end.ensures.fits))) c.put_wide.ensures.put)

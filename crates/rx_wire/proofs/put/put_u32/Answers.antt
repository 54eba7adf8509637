use Rattle.rx_spec.proofs.Prelude.{arith, w32}
use Rattle.rx_wire.specs.Fields.{field}
use Rattle.rx_wire.proofs.Fields.{length-field_32}
use Rattle.rx_wire.proofs.Behind.{put_behind, stands_more}
use Rattle.rx_wire.proofs.put.put_u32.Goals as goal

pub returns-clause-stands : goal.returns-clause-stands
returns-clause-stands g c =
    let order = g.E.Endian.order in
    stands_more
    (put_behind c.args.dst.now c.write_u32.new.dst (field order w32 c.args.n) c.args.at _ (omega (arith, c.requires))
    (length-field_32 order c.args.n) c.write_u32.ensures)

use Rattle.rx_spec.proofs.Prelude.{◌∙◌, ap, length, length-take-le, sym}
use Rattle.rx_wire.proofs.endian.BEEndian.write_u128.Goals as goal

pub copy_from_slice-requires : goal.copy_from_slice-requires
copy_from_slice-requires c = length-take-le 16 c.args.dst.now c.requires ∙ sym (ap length c.to_be_bytes.ensures)

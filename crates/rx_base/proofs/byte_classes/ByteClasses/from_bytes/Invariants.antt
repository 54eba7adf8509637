use Rattle.rx_base.proofs.Classes.{RiseBelow}
use Rattle.rx_base.proofs.byte_classes.ByteClasses.from_bytes.Given as goal

abbrev pub invariant-loop-byte : goal.invariant-loop-byte
invariant-loop-byte l = RiseBelow l.bytes l.byte

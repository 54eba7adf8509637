use Rattle.rx_spec.proofs.Prelude.{arith}
use Rattle.rx_transfer.proofs.Transfers.{written_more}
use Rattle.rx_transfer.proofs.write_text.Goals as goal

pub writes-preserved : goal.writes-preserved
writes-preserved g c = record {
  within = omega (arith, c.in-Took.ensures.bytes.1);
  bytes =
      written_more c.args.text.now c.writes.at c.in-Took.count (g.K.Sink.written c.args.out.now)
      (g.K.Sink.written c.writes.out) (g.K.Sink.written c.write.new.self) c.writes.invariant.bytes
      c.in-Took.ensures.bytes.2;
  counted = omega (arith, c.writes.invariant.counted, c.in-Took.ensures.cause);
}

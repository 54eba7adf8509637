use Rattle.rx_spec.proofs.Prelude.{◌≤◌, ◌+◌, ◌++◌, ap, length, take, arith, length-append, length-take}
use Rattle.rx_transfer.proofs.Transfers.{consumes_more}
use Rattle.rx_transfer.proofs.reading.read_up_to.Goals as goal

-- what was read and isn't kept
pub returns-in_err-extend_from_slice-in-Got-clause-starved :
    goal.returns-in_err-extend_from_slice-in-Got-clause-starved
returns-in_err-extend_from_slice-in-Got-clause-starved g c = λ memory.
    let kept = c.reads.invariant.bytes in
    let front = take c.min-room.result c.read_front.new.buffer in
    let read = take c.in-Got.count front in
    let few : length c.args.text.now.items + length (kept.0 ++ read) ≤ c.args.most
    = omega (
      arith,
      ap length kept.1,
      length-append c.args.text.now.items kept.0,
      length-append kept.0 read,
      length-take c.in-Got.count front,
      c.in-Got.ensures.bytes.1,
      length-take c.min-room.result c.read_front.new.buffer,
      c.min-room.ensures,
      c.len-in-reads.ensures,
      c.reads.invariant.few,
    ) in (
      kept.0 ++ read,
      few,
      consumes_more (g.S.Source.left c.args.src.now) (g.S.Source.left c.reads.src)
          (g.S.Source.left c.read_front.new.src)
          kept.0 read kept.2 c.in-Got.ensures.bytes.2,
    )

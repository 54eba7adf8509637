use Rattle.rx_refine.proofs.NextKeys.{IsReading}
use Rattle.rx_refine.proofs.keys.read_keys.Given as goal

abbrev pub invariant-loop-row : goal.invariant-loop-row
invariant-loop-row g l =
    IsReading (record { moves = l.incoming; unit = l.unit; blocks = l.blocks; taken = l.taken }) l.fn.steps l.row l.keys
    l.steps

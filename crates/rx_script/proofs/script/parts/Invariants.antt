use Rattle.rx_spec.proofs.Prelude.{◌+◌, ◌≤◌, length}
use Rattle.rx_script.specs.Pieces.{lines_of}
use Rattle.rx_script.specs.Reading.{lines_at}
use Rattle.rx_script.proofs.LinesAt.{ReadLines}
use Rattle.rx_script.proofs.script.parts.Given as goal

abbrev pub invariant-lines : goal.invariant-lines
invariant-lines l =
    let whole = lines_at l.with_input l.initial.number (lines_of l.initial.rest) in
    record {
      few : l.number + length l.rest ≤ l.initial.number + length l.initial.rest;
      so_far : ReadLines l.with_input l.number (lines_of l.rest) l.exprs.items whole;
    }

abbrev pub decreases-lines : goal.decreases-lines
decreases-lines l = length l.rest

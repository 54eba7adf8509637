use Rattle.rx_spec.proofs.Prelude.{◌<◌, length, map, All}
use Rattle.rx_stepper.proofs.Prelude.{AreListed, meaning, unit_number}
use Rattle.rx_stepper.proofs.ReadColumns.{ReadsBelow}
use Rattle.rx_stepper.proofs.reading.Reading.new.Given as goal

abbrev pub invariant-loop-row : goal.invariant-loop-row
invariant-loop-row l = record {
  reads : ReadsBelow (meaning l.nfa).rows (map unit_number l.units) l.row-index l.columns.items l.spans.items;
  few : All (λ column. column < length l.units) l.columns.items;
  listed : AreListed (map unit_number l.units) l.columns.items l.listed.sets.items;
}

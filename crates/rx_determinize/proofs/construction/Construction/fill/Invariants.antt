use Rattle.rx_spec.proofs.Prelude.{◌≤◌, ◌-◌, length}
use Rattle.rx_determinize.proofs.Prelude.{Continues, IsStepping, alphabet_len, work_of}
use Rattle.rx_determinize.proofs.construction.Construction.fill.Given as goal

-- the columns below this one are ready
abbrev pub invariant-columns : goal.invariant-columns
invariant-columns l = record {
  stepping : IsStepping (work_of l.self) l.dfa (record { place = l.place; column = l.column; copied = l.copied })
      l.last;
  within : l.column ≤ alphabet_len l.fn.dfa.classes;
  later : Continues (work_of l.fn.self) l.fn.dfa (work_of l.self) l.dfa;
}

abbrev pub decreases-columns : goal.decreases-columns
decreases-columns l = length l.self.units.items - l.column

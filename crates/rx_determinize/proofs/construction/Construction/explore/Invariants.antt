use Rattle.rx_spec.proofs.Prelude.{◌-◌, ◌^◌}
use Rattle.rx_determinize.proofs.Prelude.{Continues, IsExploring, work_of}
use Rattle.rx_determinize.proofs.construction.Construction.explore.Given as goal

-- the rows of the states below this place are written
abbrev pub invariant-places : goal.invariant-places
invariant-places l = record {
  exploring : IsExploring (work_of l.self) l.dfa l.models l.place;
  later : Continues (work_of l.fn.self) l.fn.dfa (work_of l.self) l.dfa;
}

-- there are fewer states than ids
abbrev pub decreases-places : goal.decreases-places
decreases-places l = 2 ^ 31 - l.place

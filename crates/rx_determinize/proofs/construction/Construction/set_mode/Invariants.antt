use Rattle.rx_spec.proofs.Prelude.{◌+◌}
use Rattle.rx_determinize.proofs.Prelude.{Continues, IsEntering, mode_of, mode_place, work_of}
use Rattle.rx_determinize.proofs.construction.Construction.set_mode.Given as goal

-- the entries of the contexts so far are set
abbrev pub invariant-contexts : goal.invariant-contexts
invariant-contexts l = record {
  entering : IsEntering (work_of l.self) l.dfa (mode_place (mode_of l.mode) + l.i) 0;
  later : Continues (work_of l.fn.self) l.fn.dfa (work_of l.self) l.dfa;
}

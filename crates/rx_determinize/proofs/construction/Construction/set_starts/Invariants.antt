use Rattle.rx_spec.proofs.Prelude.{◌+◌, ◌*◌}
use Rattle.rx_determinize.proofs.Prelude.{Continues, IsEntering, work_of}
use Rattle.rx_determinize.proofs.construction.Construction.set_starts.Given as goal

-- the entries of the patterns so far are set
abbrev pub invariant-patterns : goal.invariant-patterns
invariant-patterns l = record {
  entering : IsEntering (work_of l.self) l.dfa (12 + 6 * l.k) 0;
  later : Continues (work_of l.fn.self) l.fn.dfa (work_of l.self) l.dfa;
}

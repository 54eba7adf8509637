use Rattle.rx_spec.proofs.Prelude.{rules, sym, subst}
use Rattle.rx_dense.specs.Builder.{HasUniversalStarts}
use Rattle.rx_dense.specs.Layouts.{Layout, IsShaped, table_of}
use Rattle.rx_dense.proofs.Shaped.{shaped_universal}
use Rattle.rx_dense.proofs.UniversalStarts.{universal_starts}
use Rattle.rx_dense.proofs.dfa.build.DFA+Vec+u32.set_universal_starts.Goals as goal

pub invariant_of-self : goal.invariant_of-self
invariant_of-self c = shaped_universal _ c.if-has_unanchored.self c.if-has_anchored.self c.self.invariant

pub returns-clause-value : goal.returns-clause-value
returns-clause-value c = search rules

pub returns-clause-rows : goal.returns-clause-rows
returns-clause-rows c =
    subst (λ (l : Layout). HasUniversalStarts (table_of l)) (sym (returns-clause-value c))
    (universal_starts c.args.self.now (subst IsShaped c.self.view_is c.self.invariant))

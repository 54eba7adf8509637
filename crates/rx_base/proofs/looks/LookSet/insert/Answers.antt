use Rattle.rx_spec.proofs.Prelude.{ℕ, ap, ◌∙◌}
use Rattle.rx_base.specs.LookSet.{holds_look}
use Rattle.rx_base.proofs.LookBits.{insert-below, insert-same, insert-other}
use Rattle.rx_base.proofs.looks.LookSet.insert.Goals as goal

pub invariant_of-result : goal.invariant_of-result
invariant_of-result c = insert-below c.self.inside.bits c.bit_of.result c.args.look c.bit_of.ensures c.self.invariant

pub returns-clause-inserted : goal.returns-clause-inserted
returns-clause-inserted c = insert-same c.self.inside.bits c.bit_of.result c.args.look c.bit_of.ensures

pub returns-clause-others : goal.returns-clause-others
returns-clause-others c other ne =
    insert-other c.self.inside.bits c.bit_of.result c.args.look other c.bit_of.ensures ne
    ∙ ap (λ (set : ℕ). holds_look set other) c.self.view_is

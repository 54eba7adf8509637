use Rattle.rx_spec.proofs.Prelude.{ℕ, ap, ◌∙◌}
use Rattle.rx_base.specs.LookSet.{holds_look}
use Rattle.rx_base.proofs.LookBits.{remove-same, remove-other}
use Rattle.rx_base.proofs.looks.LookSet.remove.Goals as goal

pub returns-clause-removed : goal.returns-clause-removed
returns-clause-removed c = remove-same c.self.inside.bits c.bit_of.result c.args.look c.bit_of.ensures

pub returns-clause-others : goal.returns-clause-others
returns-clause-others c other ne =
    remove-other c.self.inside.bits c.bit_of.result c.args.look other c.bit_of.ensures ne
    ∙ ap (λ (set : ℕ). holds_look set other) c.self.view_is

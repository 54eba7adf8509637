use Rattle.rx_spec.proofs.Prelude.{ap, sym, ◌∙◌, is_eq}
use Rattle.std.proofs.lemmas.Cmp.{is_eq_index}
use Rattle.rx_powerset.proofs.StateOrder.{ranked_equal, equal_ranked}
use Rattle.rx_powerset.proofs.laws.same_rank.Goals as goal

pub returns : goal.returns
returns c =
    let told = c.eq.ensures ∙ sym (is_eq_index c.cmp.result) ∙ ap is_eq c.cmp.ensures in (
      λ h. ranked_equal c.args.a.now c.args.b.now (sym told ∙ h),
      λ e. told ∙ ap is_eq (equal_ranked c.args.a.now c.args.b.now e),
    )

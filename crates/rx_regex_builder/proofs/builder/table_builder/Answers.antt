use Rattle.rx_spec.proofs.Prelude.{sym, ap, ◌∙◌}
use Rattle.rx_build.specs.Builders as tables
use Rattle.rx_build.specs.Builders.{Both}
use Rattle.rx_build.specs.Settings.{asked, overwritten}
use Rattle.rx_expr.specs.Settings as nfa
use Rattle.rx_regex_builder.proofs.builder.table_builder.Goals as goal

pub returns : goal.returns
returns c =
    let configured = c.builder-2-1.given.1 (sym c.configure.ensures.same_reference) in
    let whole = c.builder-4-1.given.1 (sym c.thompson.ensures.same_reference) in
    let with_tables = λ (x : Both). record x { dense = overwritten x.dense (asked c.args.dense) } in
    let with_nfas = λ (x : Both). record x { thompson = nfa.overwritten x.thompson (nfa.asked c.args.thompson) } in
    ap tables.both_of whole
    ∙ (c.thompson.ensures.value
    ∙ ap with_nfas
    (ap tables.both_of configured ∙ (c.configure.ensures.value ∙ ap with_tables c.new-builder.ensures)))

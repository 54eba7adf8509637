use Rattle.rx_spec.proofs.Prelude.{sym, ap, ◌∙◌}
use Rattle.rx_build.specs.Builders.{Both}
use Rattle.rx_build.specs.Settings.{asked, overwritten}
use Rattle.rx_expr.specs.Settings as nfa
use Rattle.rx_regex_builder.specs.Pairs.{both_of}
use Rattle.rx_regex_builder.proofs.Settings.{taken_whole}
use Rattle.rx_regex.proofs.planned.table_builder.Goals as goal

pub returns : goal.returns
returns c =
    let configured = c.builder-2-1.given.1 (sym c.dense.ensures.same_reference) in
    let all = c.builder-4-1.given.1 (sym c.thompson.ensures.same_reference) in
    let with_tables = λ (x : Both).
    record x { dense = overwritten x.dense (asked c.table_settings.result) } in
    let with_nfas = λ (x : Both).
    record x { thompson = nfa.overwritten x.thompson (nfa.asked c.thompson_settings.result) } in
    ap both_of all
    ∙ (c.thompson.ensures.value
    ∙ (ap with_nfas (ap both_of configured ∙ (c.dense.ensures.value ∙ ap with_tables c.new-builder.ensures))
    ∙ taken_whole c.table_settings.ensures c.thompson_settings.ensures))

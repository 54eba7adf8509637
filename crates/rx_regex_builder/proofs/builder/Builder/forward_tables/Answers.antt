use Rattle.rx_spec.proofs.Prelude.{ap, ◌∙◌}
use Rattle.rx_build.specs.Settings as tables
use Rattle.rx_expr.specs.Settings as nfa
use Rattle.rx_regex_builder.proofs.Settings.{tables_kept, nfa_kept, taken_whole}
use Rattle.rx_regex_builder.proofs.builder.Builder.forward_tables.Goals as goal

pub returns : goal.returns
returns c =
    let dense = tables.asked c.args.self.now.dense in
    let thompson = nfa.asked c.args.self.now.thompson in
    c.table_builder.ensures
    ∙ taken_whole
    (c.overwrite-dense.ensures ∙ ap (λ n. tables.overwritten n dense) c.new.ensures ∙ tables_kept dense)
    (c.overwrite-thompson.ensures ∙ ap (λ n. nfa.overwritten n thompson) c.new-2.ensures ∙ nfa_kept thompson)

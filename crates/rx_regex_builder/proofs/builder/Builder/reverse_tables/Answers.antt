use Rattle.rx_spec.proofs.Prelude.{◌≡◌, ap, ◌∙◌, rules}
use Rattle.rx_build.specs.Settings as tables
use Rattle.rx_expr.specs.Settings as nfa
use Rattle.rx_regex_builder.specs.Pairs.{reverse_tables, reverse_nfa}
use Rattle.rx_regex_builder.proofs.Settings.{taken_whole}
use Rattle.rx_regex_builder.proofs.builder.Builder.reverse_tables.Goals as goal

pub returns : goal.returns
returns c =
    let dense = tables.asked c.args.self.now.dense in
    let thompson = nfa.asked c.args.self.now.thompson in
    let all : tables.asked c.specialize_start_states-dense.result ≡ reverse_tables = search rules in
    let back : nfa.asked c.reverse-thompson.result ≡ reverse_nfa = search rules in
    c.table_builder.ensures
    ∙ taken_whole (c.overwrite.ensures ∙ ap (tables.overwritten dense) all)
    (c.overwrite-2.ensures ∙ ap (nfa.overwritten thompson) back)

use Rattle.rx_spec.proofs.Prelude.{arith, common_steps}
use Rattle.rx_determinize.proofs.Prelude.{meaning}
use Rattle.rx_expr.proofs.UnicodeWords.{unicode_told}
use Rattle.rx_determinize.proofs.rows.is_unsupported.Goals as goal

pub returns-then-contains_word_unicode : goal.returns-then-contains_word_unicode
returns-then-contains_word_unicode c b nfa quit =
    let told = unicode_told (meaning c.args.nfa.now).rows c.look_set_any.result c.contains_word_unicode.result
    c.look_set_any.ensures c.contains_word_unicode.ensures in
    grind (arith, common_steps)

pub returns-else-contains_word_unicode : goal.returns-else-contains_word_unicode
returns-else-contains_word_unicode c b nfa quit =
    let told = unicode_told (meaning c.args.nfa.now).rows c.look_set_any.result c.contains_word_unicode.result
    c.look_set_any.ensures c.contains_word_unicode.ensures in
    grind (arith, common_steps)

use Rattle.rx_expr.specs.Nfa.{meaning}
use Rattle.rx_expr.proofs.UnicodeWords.{unicode_told}
use Rattle.rx_build.proofs.dense.classes.has_unicode_word.Goals as goal

pub returns : goal.returns
returns c =
    unicode_told (meaning c.args.nfa.now).rows c.look_set_any.result c.contains_word_unicode.result
    c.look_set_any.ensures c.contains_word_unicode.ensures

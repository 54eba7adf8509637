use Rattle.rx_spec.proofs.Prelude.{◌≡◌, ◌++◌, take}
use Rattle.rx_wire.specs.declared.order.Order.TheVariants.{Little}
use Rattle.rx_sparse.specs.Rows.{words_text}
use Rattle.rx_sparse.proofs.rows.add_words.Given as goal

abbrev pub invariant-loop-word : goal.invariant-loop-word
invariant-loop-word l = l.bytes.items ≡ l.fn.bytes.items ++ words_text Little (take l.word-index l.words)

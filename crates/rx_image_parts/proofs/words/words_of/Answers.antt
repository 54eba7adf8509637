use Rattle.rx_spec.proofs.Prelude.{◌≡◌, ℕ, ◌<◌, List, length, slice_index, arith, fill_by_all}
use Rattle.rx_wire.specs.declared.order.Order.{Order}
use Rattle.rx_image_parts.specs.Words.{word_at, words_of}
use Rattle.rx_image_parts.proofs.WordBytes.{words_fit}
use Rattle.rx_image_parts.proofs.words.words_of.Goals as goal

filled : (order : Order) (bytes words : List ℕ) (count i : ℕ) → length words ≡ count
    → ((k : ℕ) → k < i → slice_index words k ≡ word_at order bytes k) → i ≡ count → words ≡ words_of order bytes count
filled order bytes words count i len each done =
    fill_by_all (word_at order bytes) words count 0 len (λ k lt. each k (omega arith))

pub returns-clause-ok : goal.returns-clause-ok
returns-clause-ok c =
    filled c.args.order c.args.bytes.now c.loop-i.words.items c.args.count c.loop-i.i c.loop-i.invariant.len
    c.loop-i.invariant.words (omega arith)

pub returns-clause-words : goal.returns-clause-words
returns-clause-words c =
    words_fit c.args.order c.args.bytes.now c.args.count c.loop-i.words.items (λ i. omega (arith, c.type_inv.bytes i))
    (filled c.args.order c.args.bytes.now c.loop-i.words.items c.args.count c.loop-i.i c.loop-i.invariant.len
    c.loop-i.invariant.words (omega arith))

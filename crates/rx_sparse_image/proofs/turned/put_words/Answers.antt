use Rattle.rx_spec.proofs.Prelude.{common_steps, ◌≡◌, ℕ, ◌/◌, arith, sym, length, slice_index}
use Rattle.rx_spec.proofs.Prelude.{get_or-map-range_with_len, length-map-range_with_len}
use Rattle.rx_sparse.specs.Rows.{word_at, words_in}
use Rattle.rx_sparse_image.proofs.turned.put_words.Goals as goal

pub put_word-end-requires : goal.put_word-end-requires
put_word-end-requires g c = grind (arith, common_steps)

pub loop-i-init : goal.loop-i-init
loop-i-init g c = grind (arith, common_steps)

pub loop-i-preserved : goal.loop-i-preserved
loop-i-preserved g c =
    let order = c.args.order in
    let bytes = c.args.words.now in
    let count : ℕ = length bytes / 4 in
    let i : ℕ = c.loop-i.i in
    let here : word_at order bytes i ≡ slice_index (words_in order count bytes) i =
    sym (get_or-map-range_with_len (word_at order bytes) 0 count i i 0 (omega arith)
    (omega arith)) in
    grind (arith, common_steps, length-map-range_with_len (word_at order bytes) 0 count)

pub returns-clause-place : goal.returns-clause-place
returns-clause-place g c = grind (arith, common_steps)

pub returns-clause-put : goal.returns-clause-put
returns-clause-put g c = grind (arith, common_steps, length-map-range_with_len)

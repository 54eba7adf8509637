use Rattle.rx_spec.proofs.Prelude.{ℕ, ◌^◌, Bool, slice_index, sym, ap, ◌∙◌, arith, fill_by_all}
use Rattle.rx_wire.specs.declared.order.Order.{Order}
use Rattle.rx_image_parts.specs.Words.{word_at}
use Rattle.rx_dense_image.specs.Rows.{cleared}
use Rattle.rx_image_parts.specs.Below.{each_below}
use Rattle.rx_dense_image.specs.Bulk.{column_forbidden, may_stand, word_stands}
use Rattle.rx_dense_image.proofs.Padding.{padded}
use Rattle.rx_dense_image.proofs.WordBytes.{below_cong}
use Rattle.rx_dense_image.proofs.ColumnMasks.{kept_cleared, stands_column}
use Rattle.rx_dense_image.proofs.rows.row_words.Goals as goal

pub returns-clause-words : goal.returns-clause-words
returns-clause-words c =
    let s : ℕ = c.args.shape.stride2 in
    let alphabet : ℕ = c.args.shape.alphabet in
    let bytes = c.args.bytes.now in
    fill_by_all (λ k. cleared (2 ^ s) alphabet k (word_at c.args.order bytes k)) c.in_ok-words.words.items c.args.count
    0 c.in_ok-words.ensures.len
    (λ k lt.
    c.in_ok-words.ensures.words k lt
    ∙ kept_cleared c.columns_of-columns.ensures.of bytes (λ i. omega (arith, c.type_inv.bytes i)) k
    ∙ ap (λ (order : Order). cleared (2 ^ s) alphabet k (word_at order bytes k)) c.columns_of-columns.ensures.order)

pub returns-clause-past : goal.returns-clause-past
returns-clause-past c =
    let word : ℕ → ℕ = word_at c.args.order c.args.bytes.now in
    padded (2 ^ c.args.shape.stride2) c.args.shape.alphabet c.args.count word _ (returns-clause-words c)

pub returns-clause-sound : goal.returns-clause-sound
returns-clause-sound c =
    let s : ℕ = c.args.shape.stride2 in
    let last : ℕ = c.args.shape.last in
    let bytes = c.args.bytes.now in
    let words = c.in_ok-words.words.items in
    let stand : ℕ → Bool =
    λ k. may_stand (2 ^ s) last (column_forbidden (2 ^ s) c.args.shape.alphabet k) (slice_index words k) in
    c.is_clean-sound.ensures
    ∙ c.in_ok-words.ensures.clean s last
    ∙ below_cong c.args.count (word_stands s last c.columns_of-columns.result bytes) stand
    (λ k lt.
    stands_column c.columns_of-columns.ensures.of last bytes k (slice_index words k) (c.in_ok-words.ensures.words k lt))
    ∙ ap (λ (m : ℕ). each_below m stand) (sym c.in_ok-words.ensures.len)

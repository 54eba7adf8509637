-- Numbers that are tested one after another.
use Rattle.rx_spec.proofs.Prelude.{common_steps, [], ◌≡◌, ℕ, zero, suc, ◌*◌, ◌<◌, List, ◌∷◌, length, slice_index}
use Rattle.rx_spec.proofs.Prelude.{Result, Ok, Err, refl, ap, sym, ◌∙◌, subst, arith, get_or-map-range_with_len}
use Rattle.rx_spec.proofs.Prelude.{length-map-range_with_len, w32}
use Rattle.rx_wire.specs.declared.order.Order.{Order}
use Rattle.rx_wire.specs.Kinds.{Kind, ◌>>=◌}
use Rattle.rx_wire.specs.Fields.{bytes_at, number_at}
use Rattle.rx_sparse.specs.Rows.{word_at, words_in}
use Rattle.rx_sparse_image.specs.declared.rows.Bounds.{Bounds}
use Rattle.rx_sparse_image.specs.Walks.{after_patterns, each_passes, next_ids_at, tested_count, tested_id}
use Rattle.rx_sparse_image.specs.Walks.{tested_pattern}

-- all pass
pub all_pass : (test : ℕ → Result ℕ Kind) (ns : List ℕ)
    → ((k : ℕ) → k < length ns → test (slice_index ns k) ≡ Ok (slice_index ns k)) → each_passes test ns ≡ Ok (length ns)
unfolding each_passes
all_pass test [] passed = refl
all_pass test (n ∷ ns) passed =
    ap (λ r. r >>= (λ first. each_passes test ns >>= (λ count. Ok (suc count)))) (passed 0 (omega arith))
    ∙ ap (λ r. r >>= (λ count. Ok (suc count))) (all_pass test ns (λ k h. passed (suc k) (omega arith)))

-- those before one pass, and it doesn't
pub one_fails : (test : ℕ → Result ℕ Kind) (ns : List ℕ) (i : ℕ) (kind : Kind) → i < length ns
    → ((k : ℕ) → k < i → test (slice_index ns k) ≡ Ok (slice_index ns k)) → test (slice_index ns i) ≡ Err kind
    → each_passes test ns ≡ Err kind
unfolding each_passes
one_fails test [] i kind h passed fails = elim h [ ]
one_fails test (n ∷ ns) zero kind h passed fails = grind (arith, common_steps)
one_fails test (n ∷ ns) (suc i) kind h passed fails =
    ap (λ r. r >>= (λ first. each_passes test ns >>= (λ count. Ok (suc count)))) (passed 0 (omega arith))
    ∙ ap (λ r. r >>= (λ count. Ok (suc count)))
    (one_fails test ns i kind (omega arith) (λ k b. passed (suc k) (omega arith)) fails)

-- ---- words

module _ (test : ℕ → Result ℕ Kind) (order : Order) (count : ℕ) (bytes : List ℕ) where
  abbrev words : List ℕ
  words = words_in order count bytes

  here : (k : ℕ) → k < count → slice_index words k ≡ word_at order bytes k
  here k h = get_or-map-range_with_len (word_at order bytes) 0 count k k 0 h (omega arith)

  pub words_pass : ((k : ℕ) → k < count → test (word_at order bytes k) ≡ Ok (word_at order bytes k))
      → each_passes test words ≡ Ok (length words)
  words_pass passed =
      grind (arith, common_steps, all_pass, length-map-range_with_len (word_at order bytes) 0 count, here)

  pub words_fail : (i : ℕ) (kind : Kind) → i < count
      → ((k : ℕ) → k < i → test (word_at order bytes k) ≡ Ok (word_at order bytes k))
      → test (word_at order bytes i) ≡ Err kind → each_passes test words ≡ Err kind
  words_fail i kind h passed fails =
      one_fails test words i kind (omega (arith, length-map-range_with_len (word_at order bytes) 0 count))
      (λ k b. let low : k < count = omega arith in
      subst (λ n. test n ≡ Ok n) (sym (here k low)) (passed k b))
      (ap test (here i h) ∙ fails)

-- ---- where a row leads

module _ (b : Bounds) (count : ℕ) (bytes ids rest : List ℕ) (read : bytes_at (4 * count) bytes ≡ Ok (ids, rest)) where
  pub next_ids_pass : ((k : ℕ) → k < count → tested_id b (word_at b.order ids k) ≡ Ok (word_at b.order ids k))
      → next_ids_at b count bytes ≡ Ok (ids, rest)
  unfolding next_ids_at
  next_ids_pass passed = grind (arith, common_steps, words_pass)

  pub next_ids_fail : (i : ℕ) (kind : Kind) → i < count
      → ((k : ℕ) → k < i → tested_id b (word_at b.order ids k) ≡ Ok (word_at b.order ids k))
      → tested_id b (word_at b.order ids i) ≡ Err kind → next_ids_at b count bytes ≡ Err kind
  unfolding next_ids_at
  next_ids_fail i kind h passed fails =
      ap (λ r. r >>= (λ ids. each_passes (tested_id b) (words_in b.order count ids.0) >>= (λ passed. Ok ids))) read
      ∙ ap (λ r. r >>= (λ passed. Ok (ids, rest))) (words_fail (tested_id b) b.order count ids i kind h passed fails)

-- ---- patterns

module _ (b : Bounds) (count : ℕ) (bytes behind ids rest : List ℕ) (some : tested_count count ≡ Ok count)
    (told : number_at b.order w32 bytes ≡ Ok (count, behind))
    (read : bytes_at (4 * count) behind ≡ Ok (ids, rest)) where
  after_read : after_patterns b bytes
      ≡ (each_passes (tested_pattern b) (words_in b.order count ids) >>= (λ passed. Ok rest))
  unfolding after_patterns
  after_read = rw (told, some, read) refl

  pub patterns_pass
      : ((k : ℕ) → k < count → tested_pattern b (word_at b.order ids k) ≡ Ok (word_at b.order ids k))
      → after_patterns b bytes ≡ Ok rest
  patterns_pass passed =
      after_read ∙ ap (λ r. r >>= (λ passed. Ok rest)) (words_pass (tested_pattern b) b.order count ids passed)

  pub patterns_fail : (i : ℕ) (kind : Kind) → i < count
      → ((k : ℕ) → k < i → tested_pattern b (word_at b.order ids k) ≡ Ok (word_at b.order ids k))
      → tested_pattern b (word_at b.order ids i) ≡ Err kind → after_patterns b bytes ≡ Err kind
  patterns_fail i kind h passed fails =
      after_read
      ∙ ap (λ r. r >>= (λ passed. Ok rest)) (words_fail (tested_pattern b) b.order count ids i kind h passed fails)

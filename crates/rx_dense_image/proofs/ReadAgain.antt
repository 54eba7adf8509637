-- What was written is read again, whatever follows: the head and the rows.
use Rattle.rx_spec.proofs.Prelude.{common_steps, ◌≡◌, ℕ, ◌%◌, ◌<◌, ◌≤◌, List, ◌++◌, length, get_or, drop, slice_index}
use Rattle.rx_spec.proofs.Prelude.{refl, sym, ap, ◌∙◌, append_assoc, arith, rules, le-leb, and_from, fill_by_all}
use Rattle.rx_wire.specs.declared.order.Order.{Order}
use Rattle.rx_wire.specs.Kinds.{Reads}
use Rattle.rx_wire.specs.Heads.{IsLabel}
use Rattle.rx_wire.proofs.Fields.{bytes_again, u32_again}
use Rattle.rx_wire.proofs.Words.{word_alone}
use Rattle.rx_dense.specs.declared.flags.Flags.{Flags}
use Rattle.rx_dense.proofs.Rows.{quotient}
use Rattle.rx_image_parts.specs.Heads.{head_at, head_text}
use Rattle.rx_dense_image.specs.Heads.{dense_head_at, dense_label, skipped_nuls}
use Rattle.rx_image_parts.specs.Words.{AreWords, word_at, words_text}
use Rattle.rx_dense_image.specs.Rows.{AreReadRows, Rows, cleared, cleared_words_at, rows_at, rows_text}
use Rattle.rx_image_parts.proofs.ClassTests.{classes_pass}
use Rattle.rx_image_parts.proofs.ReadAgain.{head_again, front_again}

is_label : IsLabel dense_label
is_label = record { short = omega arith; text = search rules }

pub dense_head_again : (order : Order) (flags : Flags)
    → Reads dense_head_at (head_text order dense_label flags) (flags, order)
unfolding dense_head_at
dense_head_again order flags rest =
    let none : skipped_nuls (head_text order dense_label flags ++ rest) ≡ 0 = refl in
    ap (λ (n : ℕ). head_at dense_label (drop n (head_text order dense_label flags ++ rest))) none
    ∙ head_again dense_label is_label order flags rest

cleared_words_again : (order : Order) (stride alphabet : ℕ) (words : List ℕ) → AreWords words
    → ((k : ℕ) → k < length words → alphabet ≤ k % stride → slice_index words k ≡ 0)
    → Reads (cleared_words_at order stride alphabet (length words)) (words_text order words) words
unfolding cleared_words_at
cleared_words_again order stride alphabet words small padded rest =
    let f : ℕ → ℕ = λ k. cleared stride alphabet k (word_at order (words_text order words) k) in
    let each : (k : ℕ) → k < length words → get_or words k 0 ≡ f k =
    λ k lt.
    (grind (arith, common_steps))
    ∙ ap (cleared stride alphabet k) (sym (word_alone order words k lt (small k))) in
    rw (front_again order words rest, ← (fill_by_all f words (length words) 0 refl each)) refl

-- ---- rows

pub rows_again : (order : Order) (rows : Rows) → AreReadRows rows → AreWords rows.words
    → Reads (rows_at order) (rows_text order rows) rows
unfolding rows_at
rows_again order rows h small rest =
    grind (
      arith,
      common_steps,
      append_assoc,
      bytes_again,
      and_from,
      le-leb,
      quotient,
      cleared_words_again,
      u32_again,
      classes_pass,
    )

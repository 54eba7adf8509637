-- What was written is read again, whatever follows: heads and words.
use Rattle.rx_spec.proofs.Prelude.{common_steps, ◌≡◌, ℕ, ◌*◌, ◌^◌, ◌<◌, Bool, true, false, List, ◌++◌, length}
use Rattle.rx_spec.proofs.Prelude.{slice_index, Ok, refl, sym, subst, append_assoc, arith, fill_by_all}
use Rattle.rx_wire.specs.declared.order.Order.{Order}
use Rattle.rx_wire.specs.Kinds.{Reads}
use Rattle.rx_wire.specs.Fields.{bytes_at}
use Rattle.rx_wire.specs.Heads.{IsLabel}
use Rattle.rx_wire.proofs.Fields.{bytes_again, u32_again}
use Rattle.rx_wire.proofs.Words.{length-words, word_alone}
use Rattle.rx_wire.proofs.Heads.{label_again, order_again, version_again}
use Rattle.rx_dense.specs.declared.flags.Flags.{Flags}
use Rattle.rx_image_parts.specs.Heads.{flags_word, head_at, head_text}
use Rattle.rx_image_parts.specs.Words.{AreWords, word_at, words_at, words_of, words_text}

-- ---- the head

flags_small : (a b c : Bool) → flags_word (record { has_empty = a; is_utf8 = b; is_always_start_anchored = c }) < 2 ^ 32
flags_small true true true = omega arith
flags_small true true false = omega arith
flags_small true false true = omega arith
flags_small true false false = omega arith
flags_small false true true = omega arith
flags_small false true false = omega arith
flags_small false false true = omega arith
flags_small false false false = omega arith

pub head_again : (label : List ℕ) → IsLabel label → (order : Order) (flags : Flags)
    → Reads (head_at label) (head_text order label flags) (flags, order)
unfolding head_at
head_again label h order flags rest =
    grind (arith, common_steps, flags_small, append_assoc, label_again, order_again, version_again, u32_again)

-- ---- words

-- numbers below a bound are words
pub words_below : (xs : List ℕ) → ((i : ℕ) → i < length xs → slice_index xs i < 2 ^ 32) → AreWords xs
words_below xs below i = grind (arith, common_steps)

pub front_again : (order : Order) (words rest : List ℕ)
    → bytes_at (4 * length words) (words_text order words ++ rest) ≡ Ok (words_text order words, rest)
front_again order words rest =
    subst (λ (n : ℕ). bytes_at n (words_text order words ++ rest) ≡ Ok (words_text order words, rest))
    (length-words order words) (bytes_again (words_text order words) rest)

pub words_again : (order : Order) (words : List ℕ) → AreWords words
    → Reads (words_at order (length words)) (words_text order words) words
unfolding words_at
words_again order words small rest =
    let same : words ≡ words_of order (words_text order words) (length words) =
    fill_by_all (word_at order (words_text order words)) words (length words) 0 refl
    (λ k lt. sym (word_alone order words k lt (small k))) in
    rw (front_again order words rest, ← same) refl

-- ---- parts, one after another

pub regrouped : (a b c d e rest : List ℕ)
    → (a ++ (b ++ (c ++ (d ++ e)))) ++ rest ≡ a ++ (b ++ (c ++ (d ++ (e ++ rest))))
regrouped a b c d e rest = simp append_assoc refl

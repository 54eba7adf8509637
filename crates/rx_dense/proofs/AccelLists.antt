-- Needles as they are kept in words.
use Rattle.rx_spec.proofs.Prelude.{common_steps, ◌≡◌, ℕ, ◌+◌, ◌*◌, ◌/◌, ◌%◌, ◌<◌, List, [], ◌∷◌, ◌++◌, length}
use Rattle.rx_spec.proofs.Prelude.{get_or, slice_index, ap, sym, ◌∙◌, arith, length-append, map, range_with_len}
use Rattle.rx_spec.proofs.Prelude.{get_or_append_left, length-map-range_with_len, get_or-map-range_with_len}
use Rattle.rx_spec.proofs.Prelude.{fill_by_all, map-range_with_len_more}
use Rattle.rx_dense.specs.Accels.{accel_lists, word_needles}

pub accel_lists_len : (words : List ℕ) → length (accel_lists words) ≡ length words / 2
accel_lists_len words = grind (arith, common_steps, length-map-range_with_len)

pub accel_lists_at : (words : List ℕ) (i : ℕ) → i < length (accel_lists words)
    → get_or (accel_lists words) i [] ≡ word_needles (slice_index words (2 * i))
accel_lists_at words i h = grind (arith, common_steps, accel_lists_len, get_or-map-range_with_len)

-- two words more are the needles of one row more
pub accel_lists_push : (words : List ℕ) (word rest : ℕ) → length words % 2 ≡ 0
    → accel_lists (words ++ word ∷ rest ∷ []) ≡ accel_lists words ++ word_needles word ∷ []
accel_lists_push words word rest even =
    let f = λ (i : ℕ). word_needles (slice_index (words ++ word ∷ rest ∷ []) (2 * i)) in
    let n = length words / 2 in
    let count : length (words ++ word ∷ rest ∷ []) ≡ length words + 2 = length-append words (word ∷ rest ∷ []) in
    let before : accel_lists words ≡ map f (range_with_len 0 n) =
    fill_by_all f (accel_lists words) n [] (accel_lists_len words)
    (λ k h.
    accel_lists_at words k (omega (arith, accel_lists_len words))
    ∙ ap word_needles (sym (get_or_append_left words (word ∷ rest ∷ []) 0 (2 * k) (omega arith)))) in
    ap (λ m. map f (range_with_len 0 m)) (omega arith)
    ∙ map-range_with_len_more f 0 n n (omega arith)
    ∙ ap (λ (xs : List (List ℕ)). xs ++ f n ∷ []) (sym before)
    ∙ ap (λ (x : List ℕ). accel_lists words ++ x ∷ []) (ap word_needles (grind (arith, common_steps)))

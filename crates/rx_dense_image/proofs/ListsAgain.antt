-- What was written is read again: the lists of match rows.
use Rattle.rx_spec.proofs.Prelude.{common_steps, ◌≡◌, ℕ, ◌*◌, ◌/◌, ◌%◌, ◌≤◌, arith, w32, id_count}
use Rattle.rx_wire.specs.declared.order.Order.{Order}
use Rattle.rx_wire.specs.Kinds.{Reads}
use Rattle.rx_wire.specs.Fields.{field}
use Rattle.rx_wire.proofs.Fields.{u32_again}
use Rattle.rx_dense_image.specs.PatternLists.{AreReadLists, PatternLists, pattern_len_at, pattern_lists_at}
use Rattle.rx_dense_image.specs.PatternLists.{pattern_lists_text}
use Rattle.rx_image_parts.proofs.ReadAgain.{words_again}

pattern_len_again : (order : Order) (n : ℕ) → n ≤ id_count → Reads (pattern_len_at order) (field order w32 n) n
unfolding pattern_len_at
pattern_len_again order n most rest = grind (arith, common_steps, u32_again)

pairs_whole : (n : ℕ) → n % 2 ≡ 0 → n ≡ 2 * (n / 2)
pairs_whole n h = omega arith

pub pattern_lists_again : (order : Order) (lists : PatternLists) → AreReadLists lists
    → Reads (pattern_lists_at order) (pattern_lists_text order lists) lists
unfolding pattern_lists_at
pattern_lists_again order lists h rest =
    grind (arith, common_steps, pairs_whole, words_again, u32_again, pattern_len_again)

-- The head of a dense image: NULs that are passed over, and the head with the label of dense images.
use Rattle.std.specs.Prelude.{ℕ, ◌==◌, List, Result, codes, take, drop}
use Rattle.std.specs.List.{prefix_len}
use Rattle.rx_wire.specs.declared.order.Order.{Order}
use Rattle.rx_wire.specs.Kinds.{Kind}
use Rattle.rx_dense.specs.declared.flags.Flags.{Flags}
use Rattle.rx_image_parts.specs.Heads.{head_at}

abbrev pub dense_label : List ℕ
dense_label = codes "rust-regex-automata-dfa-dense"

-- up to 7 NULs may stand before the label, so that the words after it may be aligned
abbrev pub skipped_nuls : List ℕ → ℕ
skipped_nuls bytes = prefix_len (λ byte. byte == 0) (take 7 bytes)

-- of a dense image: the NULs before the label are passed over
unfoldable pub dense_head_at : List ℕ → Result ((Flags × Order) × List ℕ) Kind
dense_head_at bytes = head_at dense_label (drop (skipped_nuls bytes) bytes)

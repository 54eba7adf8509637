-- The head of an image: a label, the word that marks the byte order, the version, an unused word, and flags.
use Rattle.std.specs.Prelude.{ℕ, ◌+◌, ◌==◌, Bool, if◌then◌else◌, List, ◌++◌, Result, Ok}
use Rattle.std.specs.Int.{w32, bit_at}
use Rattle.rx_wire.specs.declared.order.Order.{Order}
use Rattle.rx_wire.specs.Kinds.{Kind, ◌>>=◌}
use Rattle.rx_wire.specs.Fields.{field, number_at}
use Rattle.rx_wire.specs.Heads.{endianness_word, label_at, label_text, order_at, version_at}
use Rattle.rx_dense.specs.declared.flags.Flags.{Flags}

abbrev pub version : ℕ
version = 2

-- ---- flags, each a bit

abbrev pub flags_of : ℕ → Flags
flags_of word = record {
  has_empty = bit_at word 0 == 1;
  is_utf8 = bit_at word 1 == 1;
  is_always_start_anchored = bit_at word 2 == 1;
}

abbrev pub flag : Bool → ℕ → ℕ
flag set worth = if set then worth else 0

abbrev pub flags_word : Flags → ℕ
flags_word flags = flag flags.has_empty 1 + flag flags.is_utf8 2 + flag flags.is_always_start_anchored 4

-- ---- the head

-- what follows a label
abbrev pub behind_label : Order → Flags → List ℕ
behind_label order flags =
    field order w32 endianness_word
    ++ (field order w32 version ++ (field order w32 0 ++ field order w32 (flags_word flags)))

abbrev pub head_text : Order → List ℕ → Flags → List ℕ
head_text order label flags = label_text label ++ behind_label order flags

-- The flags, and the order of what follows.
unfoldable pub head_at : List ℕ → List ℕ → Result ((Flags × Order) × List ℕ) Kind
head_at label bytes = do
  found ← label_at label bytes
  order ← order_at found.1
  version ← version_at version order.0 order.1
  unused ← number_at order.0 w32 version.1
  word ← number_at order.0 w32 unused.1
  Ok ((flags_of word.0, order.0), word.1)

-- Numbers of images, in either byte order, and plain bytes.
use Rattle.std.specs.Prelude.{◌≡◌, ℕ, List, ◌++◌, length, take, drop, nat_lt, nat_le, Result, Ok, Err, if◌then◌else◌}
use Rattle.std.specs.Int.{Width, w32, byte_len, to_le_bytes, to_be_bytes, from_le_bytes, from_be_bytes}
use Rattle.rx_spec.specs.Causes.{max_id}
use Rattle.rx_wire.specs.declared.order.Order.{Order}
use Rattle.rx_wire.specs.Kinds.{Kind, ◌>>=◌}

-- the bytes of a number
abbrev pub field : Order → Width → ℕ → List ℕ
field Order.Little w n = to_le_bytes w n
field Order.Big w n = to_be_bytes w n

-- the number of a field's bytes
abbrev pub number : Order → Width → List ℕ → ℕ
number Order.Little w bytes = from_le_bytes w bytes
number Order.Big w bytes = from_be_bytes w bytes

-- a number, and the bytes after it
unfoldable pub number_at : Order → Width → List ℕ → Result (ℕ × List ℕ) Kind
number_at order w bytes =
    if nat_lt (length bytes) (byte_len w) then Err Kind.BufferTooSmall
    else Ok (number order w (take (byte_len w) bytes), drop (byte_len w) bytes)

-- an id; a number above the greatest is refused by the kind of the ids
unfoldable pub id_at : (ℕ → Kind) → Order → List ℕ → Result (ℕ × List ℕ) Kind
id_at kind order bytes = do
  n ← number_at order w32 bytes
  if nat_le n.0 max_id then Ok n else Err (kind n.0)

-- so many bytes as they are
unfoldable pub bytes_at : ℕ → List ℕ → Result (List ℕ × List ℕ) Kind
bytes_at count bytes =
    if nat_lt (length bytes) count then Err Kind.BufferTooSmall else Ok (take count bytes, drop count bytes)

-- a text stands at the front of a destination, up to a place, and the bytes after it are as before
pub record Stands (text old new : List ℕ) (at : ℕ) : Type 0 where
  pub place : at ≡ length text
  pub whole : new ≡ text ++ drop at old

-- Labels, and the words that mark an image's byte order and version.
use Rattle.std.specs.Prelude.{◌≡◌, ℕ, ◌+◌, ◌-◌, ◌%◌, ◌≤◌, ◌==◌, nat_lt, Bool, true, not, List, ◌++◌, length, take, drop}
use Rattle.std.specs.Prelude.{replicate, Result, Ok, Err, if◌then◌else◌}
use Rattle.std.specs.List.{list_all, prefix_len}
use Rattle.std.specs.Str.{bytes_eq}
use Rattle.std.specs.Int.{w32}
use Rattle.rx_wire.specs.declared.order.Order.{Order}
use Rattle.rx_wire.specs.Kinds.{Kind, ◌>>=◌}
use Rattle.rx_wire.specs.Fields.{number_at}

-- ---- labels

-- what a number lacks to a multiple of 4
abbrev pub padding : ℕ → ℕ
padding n = (4 - n % 4) % 4

abbrev pub padded : ℕ → ℕ
padded n = n + padding n

-- a byte of a label, which is no NUL
abbrev pub is_text : ℕ → Bool
is_text byte = not (byte == 0)

pub record IsLabel (label : List ℕ) : Type 0 where
  pub short : length label ≤ 255
  pub text : list_all is_text label ≡ true

-- a label, its NUL, and NULs up to a multiple of 4
abbrev pub label_text : List ℕ → List ℕ
label_text label = label ++ replicate (1 + padding (length label + 1)) 0

-- The size of the expected label, padded, and the bytes after it. The label that is found is what stands before the
-- first NUL of the first 256 bytes.
unfoldable pub label_at : List ℕ → List ℕ → Result (ℕ × List ℕ) Kind
label_at expected bytes =
    let len = prefix_len is_text (take 256 bytes) in
    let size = padded (len + 1) in
    if len == length (take 256 bytes) then Err Kind.Generic
    else (if nat_lt (length bytes) size then Err Kind.Generic
    else (if bytes_eq (take len bytes) expected then Ok (size, drop size bytes) else Err (Kind.LabelMismatch expected)))

-- ---- the order

-- 0xFEFF, which read in the other order is 0xFFFE0000
abbrev pub endianness_word : ℕ
endianness_word = 0xFEFF

abbrev pub order_of : ℕ → Result Order Kind
order_of n =
    if n == endianness_word then Ok Order.Little
    else (if n == 0xFFFE0000 then Ok Order.Big else Err (Kind.EndianMismatch endianness_word n))

-- the order of what follows
unfoldable pub order_at : List ℕ → Result (Order × List ℕ) Kind
order_at bytes = do
  n ← number_at Order.Little w32 bytes
  order ← order_of n.0
  Ok (order, n.1)

-- the word of a little endian image
unfoldable pub endianness_check_at : List ℕ → Result (ℕ × List ℕ) Kind
endianness_check_at bytes = do
  n ← number_at Order.Little w32 bytes
  if n.0 == endianness_word then Ok n else Err (Kind.EndianMismatch endianness_word n.0)

-- ---- the version

unfoldable pub version_at : ℕ → Order → List ℕ → Result (ℕ × List ℕ) Kind
version_at expected order bytes = do
  n ← number_at order w32 bytes
  if n.0 == expected then Ok n else Err (Kind.VersionMismatch expected n.0)

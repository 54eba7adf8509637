-- Bytes, units, and sets of bytes.
use Rattle.std.specs.Prelude.{ℕ, ◌+◌, ◌-◌, ◌^◌, ◌<◌, Bool, ◌==◌, nat_lt, nat_le, ◌&&◌, ◌||◌, Option, unwrap_or, List}
use Rattle.std.specs.Prelude.{All}
use Rattle.std.specs.Int.{bit_at}

-- A set of bytes is a number below 2 ^ 256: its bit b is set where the byte b is in the set. The end
-- mark is in none.
abbrev pub contains : ℕ → ℕ → Bool
contains set unit = nat_lt unit 256 && (bit_at set unit == 1)

-- the set of one byte, and of the bytes from first to last
abbrev pub only : ℕ → ℕ
only byte = 2 ^ byte

abbrev pub between : ℕ → ℕ → ℕ
between first last = 2 ^ (last + 1) - 2 ^ first

abbrev pub all_bytes : ℕ
all_bytes = 2 ^ 256 - 1

-- What an automaton reads is a unit: a byte as its number, or the end mark.
abbrev pub eoi : ℕ
eoi = 256

-- the byte at a place of the haystack, seen as a unit: the end mark where there is none
abbrev pub unit_of : Option ℕ → ℕ
unit_of byte = unwrap_or byte eoi

-- a word byte: 0-9, A-Z, a-z and _
abbrev pub is_word : ℕ → Bool
is_word b = (nat_le 48 b && nat_le b 57) || (nat_le 65 b && nat_le b 90) || (b == 95) || (nat_le 97 b && nat_le b 122)

-- the elements are bytes
abbrev pub AreBytes : List ℕ → Type 0
AreBytes bytes = All (λ b. b < 256) bytes

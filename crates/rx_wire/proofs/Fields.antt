-- What was written is read back, in either order, whatever follows: numbers, ids and bytes.
use Rattle.rx_spec.proofs.Prelude.{common_steps, ◌≡◌, ℕ, ◌^◌, ◌<◌, ◌≤◌, true, List, length, refl, arith, w16, w32, w128}
use Rattle.rx_spec.proofs.Prelude.{le-ltb, take_at, drop_at, length-append, max_id}
use Rattle.std.specs.Int.{Width, byte_len}
use Rattle.std.proofs.lemmas.Nat.{from_le_bytes-to_le_bytes_2, from_be_bytes-to_be_bytes_2, from_le_bytes-to_le_bytes_4}
use Rattle.std.proofs.lemmas.Nat.{from_be_bytes-to_be_bytes_4}
use Rattle.rx_wire.specs.declared.order.Order.{Order}
use Rattle.rx_wire.specs.Kinds.{Kind, Reads}
use Rattle.rx_wire.specs.Fields.{bytes_at, field, id_at, number, number_at}
use Rattle.rx_wire.proofs.WideNumbers.{again128}

-- what is true of a width, for numbers below a limit
record IsWidth (w : Width) (limit : ℕ) : Type 0 where
  pub len : (order : Order) (n : ℕ) → length (field order w n) ≡ byte_len w
  pub again : (order : Order) (n : ℕ) → n < limit → number order w (field order w n) ≡ n

read_back : {w : Width} {limit : ℕ} → IsWidth w limit → (order : Order) (n : ℕ) → n < limit
    → Reads (number_at order w) (field order w n) n
unfolding number_at
read_back {w} width order n h rest = grind (arith, common_steps, le-ltb, length-append, take_at, drop_at)

-- ---- two, four and 16 bytes

pub length-field_16 : (order : Order) (n : ℕ) → length (field order w16 n) ≡ 2
length-field_16 Order.Little n = refl
length-field_16 Order.Big n = refl

pub again16 : (order : Order) (n : ℕ) → n < 2 ^ 16 → number order w16 (field order w16 n) ≡ n
again16 Order.Little n h = from_le_bytes-to_le_bytes_2 n h
again16 Order.Big n h = from_be_bytes-to_be_bytes_2 n h

pub length-field_32 : (order : Order) (n : ℕ) → length (field order w32 n) ≡ 4
length-field_32 Order.Little n = refl
length-field_32 Order.Big n = refl

pub again32 : (order : Order) (n : ℕ) → n < 2 ^ 32 → number order w32 (field order w32 n) ≡ n
again32 Order.Little n h = from_le_bytes-to_le_bytes_4 n h
again32 Order.Big n h = from_be_bytes-to_be_bytes_4 n h

pub length-field_128 : (order : Order) (n : ℕ) → length (field order w128 n) ≡ 16
length-field_128 Order.Little n = refl
length-field_128 Order.Big n = refl

pub u16_again : (order : Order) (n : ℕ) → n < 2 ^ 16 → Reads (number_at order w16) (field order w16 n) n
u16_again order n h = read_back (record { len = length-field_16; again = again16 }) order n h

pub u32_again : (order : Order) (n : ℕ) → n < 2 ^ 32 → Reads (number_at order w32) (field order w32 n) n
u32_again order n h = read_back (record { len = length-field_32; again = again32 }) order n h

pub u128_again : (order : Order) (n : ℕ) → n < 2 ^ 128 → Reads (number_at order w128) (field order w128 n) n
u128_again order n h = read_back (record { len = length-field_128; again = again128 }) order n h

-- ---- ids and bytes

pub id_again : (kind : ℕ → Kind) (order : Order) (n : ℕ) → n ≤ max_id
    → Reads (id_at kind order) (field order w32 n) n
unfolding id_at
id_again kind order n h rest = grind (arith, common_steps, u32_again)

pub bytes_again : (bytes : List ℕ) → Reads (bytes_at (length bytes)) bytes bytes
unfolding bytes_at
bytes_again bytes rest = grind (arith, common_steps, le-ltb, length-append, take_at, drop_at)

-- numbers of each width
pub ruleset numbers_again = (u16_again, u32_again, u128_again)

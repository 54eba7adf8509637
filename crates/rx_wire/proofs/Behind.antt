-- One field more behind a text.
use Rattle.rx_spec.proofs.Prelude.{◌≡◌, ℕ, ◌+◌, ◌-◌, ◌≤◌, List, [], ◌++◌, length, take, drop, append_assoc, arith}
use Rattle.rx_spec.proofs.Prelude.{take_at, drop_at, drop-drop, length-append, length-drop, append-nil, common_steps}
use Rattle.rx_wire.specs.Fields.{Stands}

-- a field of so many bytes was written at a place
pub record IsPut (old new field : List ℕ) (at n : ℕ) : Type 0 where
  pub len : length field ≡ n
  pub is : new ≡ take at old ++ (field ++ drop n (drop at old))

pub stands_more : {now new field : List ℕ} {at n : ℕ} → IsPut now new field at n → (text old : List ℕ)
    → Stands text old now at → Stands (text ++ field) old new (at + n)
stands_more {now} {new} {field} {at} {n} put text old h =
    grind (arith, common_steps, take_at, drop_at, length-append, drop-drop, append_assoc)

-- a field written at the front of the bytes from a place on
pub put_behind : (now part field : List ℕ) (at n : ℕ) → at ≤ length now → length field ≡ n
    → part ≡ field ++ drop n (take (length now - at) (drop at now))
    → IsPut now (take at now ++ (part ++ drop (length now - at) (drop at now))) field at n
put_behind now part field at n le field_len is = grind (arith, common_steps, length-drop, append-nil)

-- a field written in the place of as many bytes
pub put_between : (now part field : List ℕ) (at end : ℕ) → end ≡ at + length field → part ≡ field
    → IsPut now (take at now ++ (part ++ drop (end - at) (drop at now))) field at (length field)
put_between now part field at end e is = grind (arith, common_steps)

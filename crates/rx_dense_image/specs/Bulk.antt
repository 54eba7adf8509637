-- How the words of rows are tested in bulk, without a branch.
use Rattle.std.specs.Prelude.{◌≡◌, ℕ, ◌-◌, ◌%◌, ◌^◌, ◌<◌, ◌≤◌, ◌==◌, ◌&&◌, nat_lt, nat_le, Bool, not, List, length}
use Rattle.std.specs.Prelude.{slice_index, bit_and, if◌then◌else◌}
use Rattle.rx_image_parts.specs.Words.{word_at}
use Rattle.rx_dense_image.specs.declared.bulk.Columns.{Columns}
use Rattle.rx_dense_image.specs.declared.bulk.Wrong.{Wrong}
use Rattle.rx_image_parts.specs.Below.{each_below}

-- no bit below the stride, no word above the last row's id, and no word that is forbidden
abbrev pub is_clean : (stride last : ℕ) → Wrong → Bool
is_clean stride last wrong =
    (wrong.low % stride == 0) && nat_le wrong.greatest last && (wrong.forbidden == 0)

-- a multiple of the stride, at most the last row's id, and not the forbidden number
abbrev pub may_stand : (stride last forbidden word : ℕ) → Bool
may_stand stride last forbidden word = (word % stride == 0) && nat_le word last && not (word == forbidden)

-- all bits or none
abbrev pub all_bits : Bool → ℕ
all_bits b = if b then 0xFFFFFFFF else 0

-- the bits of a word that its column keeps, where the columns go round, and whether they may stand there
abbrev pub kept_word : Columns → List ℕ → ℕ → ℕ
kept_word c bytes k = bit_and (word_at c.order bytes k) (slice_index c.kept.now (k % length c.kept.now))

abbrev pub word_stands : (s last : ℕ) → Columns → List ℕ → ℕ → Bool
word_stands s last c bytes k =
    may_stand (2 ^ s) last (slice_index c.forbidden.now (k % length c.kept.now)) (kept_word c bytes k)

-- there is at least one column, and for each what may not stand there
pub record AreColumns (c : Columns) : Type 0 where
  pub some : 0 < length c.kept.now
  pub same : length c.forbidden.now ≡ length c.kept.now

-- all bits within the alphabet, and none past it
abbrev pub column_mask : (stride alphabet column : ℕ) → ℕ
column_mask stride alphabet column = all_bits (nat_lt (column % stride) alphabet)

-- on the end mark the quit row's id, and else a number that is no id
abbrev pub column_forbidden : (stride alphabet column : ℕ) → ℕ
column_forbidden stride alphabet column = if column % stride == alphabet - 1 then stride else 0xFFFFFFFF

abbrev pub stand_below : (stride alphabet last : ℕ) → List ℕ → Bool
stand_below stride alphabet last words =
    each_below (length words)
    (λ k. may_stand stride last (column_forbidden stride alphabet k) (slice_index words k))

-- the columns are those of rows of a stride and an alphabet
pub record AreOf (c : Columns) (s alphabet : ℕ) : Type 0 where
  pub exponent : s ≤ 9
  pub len : length c.kept.now ≡ 512
  pub kept : (i : ℕ) → i < 512 → slice_index c.kept.now i ≡ column_mask (2 ^ s) alphabet i
  pub forbidden : (i : ℕ) → i < 512 → slice_index c.forbidden.now i ≡ column_forbidden (2 ^ s) alphabet i

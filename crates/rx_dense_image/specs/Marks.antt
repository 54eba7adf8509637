-- The marks of an image: the special ids, the needles of accelerated rows, and the quit bytes.
use Rattle.std.specs.Prelude.{◌≡◌, ℕ, ◌*◌, ◌^◌, ◌<◌, ◌≤◌, nat_lt, nat_le, true, if◌then◌else◌, List, [], ◌∷◌}
use Rattle.std.specs.Prelude.{◌++◌, length, map, take, drop, replicate, slice_index, get_or, Result, Ok, Err}
use Rattle.std.specs.List.{flat_map, range_with_len}
use Rattle.std.specs.Int.{w32}
use Rattle.rx_wire.specs.declared.order.Order.{Order}
use Rattle.rx_wire.specs.Kinds.{Kind, ◌>>=◌}
use Rattle.rx_wire.specs.Fields.{bytes_at, field, number_at}
use Rattle.rx_dense.specs.declared.special.Special.{Special}
use Rattle.rx_image_parts.specs.SpecialIds.{are_special, special_at, special_text}
use Rattle.rx_image_parts.specs.QuitBytes.{quit_at, quit_text}

-- ---- needles

-- an accelerator: how many needles there are, three bytes with the needles first, and four bytes that are 0
abbrev pub accel_text : List ℕ → List ℕ
accel_text needles = take 8 (length needles ∷ (needles ++ replicate 7 0))

abbrev pub accels_text : Order → List (List ℕ) → List ℕ
accels_text order accels = field order w32 (length accels) ++ flat_map accel_text accels

-- The needles of an accelerator. Where it counts more than three it is read as one that has none, which no
-- accelerated row may have.
abbrev pub needles_of : List ℕ → List ℕ
needles_of accel = if nat_le (slice_index accel 0) 3 then take (slice_index accel 0) (drop 1 accel) else []

abbrev pub needles_in : List ℕ → ℕ → List ℕ
needles_in bytes i = needles_of (drop (8 * i) bytes)

unfoldable pub accels_at : Order → List ℕ → Result (List (List ℕ) × List ℕ) Kind
accels_at order bytes = do
  count ← number_at order w32 bytes
  front ← bytes_at (8 * count.0) count.1
  Ok (map (needles_in front.0) (range_with_len 0 count.0), front.1)

-- what is true of needles that were read
pub record AreReadAccels (accels : List (List ℕ)) : Type 0 where
  pub few : length accels < 2 ^ 32
  pub few_needles : (i : ℕ) → length (get_or accels i []) ≤ 3

-- an accelerator alone, of which at least four bytes are asked for
abbrev pub accel_of : List ℕ → Result (List ℕ) Kind
accel_of slice =
    if nat_lt (length slice) 4 then Err Kind.BufferTooSmall
    else (if nat_le (slice_index slice 0) 3 then Ok (needles_of slice) else Err Kind.Generic)

-- ---- all of them

pub record Marks : Type 0 where
  pub special : Special
  pub accels : List (List ℕ)
  pub quit : ℕ

abbrev pub marks_text : Order → Marks → List ℕ
marks_text order marks =
    special_text order marks.special ++ (accels_text order marks.accels ++ quit_text order marks.quit)

unfoldable pub marks_at : Order → ℕ → List ℕ → Result (Marks × List ℕ) Kind
marks_at order word_len bytes = do
  special ← special_at order word_len bytes
  accels ← accels_at order special.1
  quit ← quit_at order accels.1
  Ok (record { special = special.0; accels = accels.0; quit = quit.0 }, quit.1)

-- what is true of marks that were read
pub record AreReadMarks (word_len : ℕ) (marks : Marks) : Type 0 where
  pub special : are_special marks.special ≡ true
  pub within : marks.special.max < word_len
  pub accels : AreReadAccels marks.accels
  pub quit : marks.quit < 2 ^ 256

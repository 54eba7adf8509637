-- The rows of a dense image: their number, the base-2 logarithm of the stride, the class of each byte, and the words.
use Rattle.std.specs.Prelude.{◌≡◌, ℕ, ◌-◌, ◌*◌, ◌/◌, ◌%◌, ◌^◌, ◌<◌, ◌≤◌, ◌==◌, ◌&&◌, nat_lt, nat_le, Bool, not}
use Rattle.std.specs.Prelude.{if◌then◌else◌, List, ◌++◌, length, map, slice_index, Result, Ok, Err}
use Rattle.std.specs.List.{list_all, range_with_len}
use Rattle.std.specs.Int.{w32}
use Rattle.rx_wire.specs.declared.order.Order.{Order}
use Rattle.rx_wire.specs.Kinds.{Kind, ◌>>=◌}
use Rattle.rx_wire.specs.Fields.{bytes_at, field, number_at}
use Rattle.rx_base.specs.ByteClasses.{AreClasses, alphabet_len}
use Rattle.rx_spec.specs.Causes.{max_id}
use Rattle.rx_dense.specs.Layouts.{Layout}
use Rattle.rx_image_parts.specs.Words.{words_text, word_at}
use Rattle.rx_image_parts.specs.Classes.{are_classes}

-- The words of the rows are 0 past the alphabet, whatever an image has there.
pub record Rows : Type 0 where
  pub classes : List ℕ
  pub stride2 : ℕ
  pub words : List ℕ

abbrev pub rows_of : Layout → Rows
rows_of l = record { classes = l.classes; stride2 = l.stride2; words = l.words }

abbrev pub rows_text : Order → Rows → List ℕ
rows_text order rows =
    field order w32 (length rows.words / 2 ^ rows.stride2)
    ++ (field order w32 rows.stride2 ++ (rows.classes ++ words_text order rows.words))

abbrev pub fits_stride : ℕ → List ℕ → Bool
fits_stride stride2 classes =
    nat_le 1 stride2 && nat_le stride2 9 && nat_le (alphabet_len classes) (2 ^ stride2)

-- the stride, after the tests of the classes and then of its exponent
abbrev pub stride_of : ℕ → List ℕ → Result ℕ Kind
stride_of stride2 classes =
    if not (are_classes classes) then Err Kind.Generic
    else (if not (fits_stride stride2 classes) then Err Kind.Generic else Ok (2 ^ stride2))

-- what is true of classes and a stride that were read
pub record IsStride (classes : List ℕ) (stride2 stride : ℕ) : Type 0 where
  pub value : stride ≡ 2 ^ stride2
  pub some : 1 ≤ stride2
  pub exponent : stride2 ≤ 9
  pub most : stride ≤ 512
  pub rise : AreClasses classes
  pub fits : alphabet_len classes ≤ stride

-- a word within the alphabet stays, and one past it is 0
abbrev pub cleared : (stride alphabet : ℕ) → ℕ → ℕ → ℕ
cleared stride alphabet place word = if nat_lt (place % stride) alphabet then word else 0

unfoldable pub cleared_words_at : Order → (stride alphabet count : ℕ) → List ℕ → Result (List ℕ × List ℕ) Kind
cleared_words_at order stride alphabet count bytes = do
  front ← bytes_at (4 * count) bytes
  Ok (map (λ k. cleared stride alphabet k (word_at order front.0 k)) (range_with_len 0 count), front.1)

unfoldable pub rows_at : Order → List ℕ → Result (Rows × List ℕ) Kind
rows_at order bytes = do
  count ← number_at order w32 bytes
  stride2 ← number_at order w32 count.1
  classes ← bytes_at 256 stride2.1
  stride ← stride_of stride2.0 classes.0
  words ← cleared_words_at order stride (alphabet_len classes.0) (count.0 * stride) classes.1
  Ok (record { classes = classes.0; stride2 = stride2.0; words = words.0 }, words.1)

-- A word must be the id of a row, and on the end mark none may lead to the quit row, which is row 1.
abbrev pub is_entry : Rows → ℕ → Bool
is_entry rows k =
    let stride : ℕ = 2 ^ rows.stride2 in
    let word : ℕ = slice_index rows.words k in
    (word % stride == 0) && nat_lt word (length rows.words)
    && not ((k % stride == alphabet_len rows.classes - 1) && (word == stride))

-- the last row has an id, and so all have
abbrev pub have_ids : Rows → Bool
have_ids rows = nat_le (length rows.words - 2 ^ rows.stride2) max_id

abbrev pub are_entries : Rows → Bool
are_entries rows = have_ids rows && list_all (is_entry rows) (range_with_len 0 (length rows.words))

-- words past the alphabet are 0
pub record ArePadded (stride alphabet : ℕ) (words : List ℕ) : Type 0 where
  pub zero : (k : ℕ) → k < length words → alphabet ≤ k % stride → slice_index words k ≡ 0

-- what is true of rows that were read
pub record AreReadRows (rows : Rows) : Type 0 where
  pub classes : AreClasses rows.classes
  pub some : 1 ≤ rows.stride2
  pub exponent : rows.stride2 ≤ 9
  pub fits : alphabet_len rows.classes ≤ 2 ^ rows.stride2
  pub whole : length rows.words % 2 ^ rows.stride2 ≡ 0
  pub few : length rows.words / 2 ^ rows.stride2 < 2 ^ 32
  pub padded : ArePadded (2 ^ rows.stride2) (alphabet_len rows.classes) rows.words

-- What single words of a script spell: numbers, bytes, sets of bytes, modes.
use Rattle.std.specs.Prelude.{ℕ, ◌+◌, ◌-◌, ◌*◌, ◌^◌, Bool, true, false, ◌==◌, ◌&&◌, nat_le, nat_lt, if◌then◌else◌}
use Rattle.std.specs.Prelude.{bit_or}
use Rattle.std.specs.Prelude.{List, [], ◌∷◌, length, codes, Option, Some, None, option_map, option_and_then}
use Rattle.std.specs.Str.{bytes_eq}
use Rattle.std.specs.List.{slice_split}
use Rattle.rx_spec.specs.Bytes.{between}
use Rattle.rx_spec.specs.Causes.{max_id}
use Rattle.rx_base.specs.declared.search.Anchored.{Anchored as Mode}
use Rattle.rx_script.specs.Names.{anchored_of}

-- ---- numbers

-- a number is below this
abbrev pub number_limit : ℕ
number_limit = 2 ^ 32

-- a digit, and the number that it makes of the digits before it
abbrev pub is_digit : ℕ → Bool
is_digit c = nat_le 48 c && nat_le c 57

abbrev pub with_digit : ℕ → ℕ → ℕ
with_digit n c = 10 * n + (c - 48)

-- digits after those of a number, as long as it stays below the limit
abbrev pub number_from : ℕ → List ℕ → Option ℕ
number_from n [] = Some n
number_from n (c ∷ cs) =
    if is_digit c && nat_lt (with_digit n c) number_limit then number_from (with_digit n c) cs else None

-- decimal digits without a leading zero but for 0 itself
abbrev pub number_of : List ℕ → Option ℕ
number_of [] = None
number_of (c ∷ []) = number_from 0 (c ∷ [])
number_of (c ∷ (d ∷ ds)) = if c == 48 then None else number_from 0 (c ∷ (d ∷ ds))

-- the most rounds of a repetition: a number, or no end
unfoldable pub most_of : List ℕ → Option (Option ℕ)
most_of word = if bytes_eq word (codes "inf") then Some None else option_map (λ n. Some n) (number_of word)

-- ---- bytes

abbrev pub digit_of : ℕ → Option ℕ
digit_of c =
    if nat_le 48 c && nat_le c 57 then Some (c - 48)
    else (if nat_le 97 c && nat_le c 102 then Some (c - 87)
    else (if nat_le 65 c && nat_le c 70 then Some (c - 55)
    else None))

-- the value of a digit, 16 for none
abbrev pub value_of : Option ℕ → ℕ
value_of None = 16
value_of (Some value) = value

abbrev pub byte_from : Option ℕ → Option ℕ → Option ℕ
byte_from None low = None
byte_from (Some h) None = None
byte_from (Some h) (Some l) = Some (16 * h + l)

-- two hexadecimal digits
abbrev pub byte_of : ℕ → ℕ → Option ℕ
byte_of high low = byte_from (digit_of high) (digit_of low)

-- a word of two digits
abbrev pub one_byte : List ℕ → Option ℕ
one_byte (high ∷ (low ∷ [])) = byte_of high low
one_byte _ = None

abbrev pub with_byte : Option ℕ → Option (List ℕ) → Option (List ℕ)
with_byte None bytes = None
with_byte (Some b) None = None
with_byte (Some b) (Some bs) = Some (b ∷ bs)

abbrev pub pairs_of : List ℕ → Option (List ℕ)
pairs_of [] = Some []
pairs_of (c ∷ []) = None
pairs_of (high ∷ (low ∷ cs)) = with_byte (byte_of high low) (pairs_of cs)

-- at least one pair of digits, or a dash for no byte
unfoldable pub bytes_of : List ℕ → Option (List ℕ)
bytes_of word =
    if bytes_eq word (codes "-") then Some [] else (if length word == 0 then None else pairs_of word)

-- ---- sets of bytes

-- the first and the last byte of a range
abbrev pub single : Option ℕ → Option (ℕ × ℕ)
single None = None
single (Some b) = Some (b, b)

abbrev pub ordered : Option ℕ → Option ℕ → Option (ℕ × ℕ)
ordered None last = None
ordered (Some first) None = None
ordered (Some first) (Some last) = if nat_le first last then Some (first, last) else None

abbrev pub range_of : List ℕ → Option (ℕ × ℕ)
range_of (h ∷ (l ∷ [])) = single (byte_of h l)
range_of (h ∷ (l ∷ (dash ∷ (h' ∷ (l' ∷ []))))) = if dash == 45 then ordered (byte_of h l) (byte_of h' l') else None
range_of _ = None

-- the ranges put into a set
abbrev pub ranges_from : ℕ → List (List ℕ) → Option ℕ
ranges_from set [] = Some set
ranges_from set (piece ∷ pieces) =
    option_and_then (λ r. ranges_from (bit_or set (between r.0 r.1)) pieces) (range_of piece)

-- the word none, or ranges with commas between
unfoldable pub set_of_word : List ℕ → Option ℕ
set_of_word word =
    if bytes_eq word (codes "none") then Some 0 else ranges_from 0 (slice_split (λ b. b == 44) word)

-- ---- modes

abbrev pub pattern_mode : Option ℕ → Option Mode
pattern_mode None = None
pattern_mode (Some n) = if nat_le n max_id then Some (Mode.Pattern n) else None

-- the number of a pattern directly after a p
abbrev pub numbered_mode : List ℕ → Option Mode
numbered_mode (c ∷ cs) = if c == 112 then pattern_mode (number_of cs) else None
numbered_mode [] = None

abbrev pub mode_from : List ℕ → Option Bool → Option Mode
mode_from word (Some true) = Some Mode.Yes
mode_from word (Some false) = Some Mode.No
mode_from word None = numbered_mode word

-- a name, or the number of a pattern
unfoldable pub mode_word : List ℕ → Option Mode
mode_word word = mode_from word (anchored_of word)

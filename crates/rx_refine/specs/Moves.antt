-- Tables of rows and units, the rows that behave alike, and words that distinguish two rows.
use Rattle.std.specs.Prelude.{ℕ, ◌≡◌, ◌↔◌, ◌≢◌, ◌<◌, ◌≤◌, ◌*◌, ◌^◌, List, [], length, slice_index, slice_index_or}
use Rattle.std.specs.Prelude.{fold, Contains}
use Rattle.std.specs.Int.Digits.{digits_of}
use Rattle.rx_refine.specs.Places.{places_of}

-- A table: so many rows, so many units, and for each unit the next row of each row.
pub record Moves : Type 0 where
  pub rows : ℕ
  pub units : ℕ
  pub columns : List (List ℕ)

abbrev pub column : Moves → ℕ → List ℕ
column m unit = slice_index_or m.columns unit []

-- the row to which a unit leads from a row
abbrev pub next_row : Moves → ℕ → ℕ → ℕ
next_row m row unit = slice_index (column m unit) row

-- the rows that a unit leads to a row, in rising order
abbrev pub sources : Moves → ℕ → ℕ → List ℕ
sources m row unit = places_of (column m unit) row

-- each unit leads from each row to a row, and there are not too many rows
pub record AreMoves (m : Moves) : Type 0 where
  pub few : m.rows ≤ 2 ^ 31
  pub lengths : (unit : ℕ) → 0 < m.rows → unit < m.units → length (column m unit) ≡ m.rows
  pub nexts : (row unit : ℕ) → row < m.rows → unit < m.units → next_row m row unit < m.rows

-- a word of units
abbrev pub IsWord : Moves → List ℕ → Type 0
IsWord m word = (unit : ℕ) → Contains word unit → unit < m.units

-- the row to which a word leads
abbrev pub row_after : Moves → ℕ → List ℕ → ℕ
row_after m row word = fold (next_row m) row word

-- the label of the row to which a word leads
abbrev pub label_after : Moves → List ℕ → ℕ → List ℕ → ℕ
label_after m labels row word = slice_index labels (row_after m row word)

-- every word leads from both rows to rows with equal labels
abbrev pub BehaveAlike : Moves → List ℕ → ℕ → ℕ → Type 0
BehaveAlike m labels x y = (word : List ℕ) → IsWord m word → label_after m labels x word ≡ label_after m labels y word

-- some word leads from the two rows to rows with different labels
pub record AreToldApart (m : Moves) (labels : List ℕ) (x y : ℕ) : Type 0 where
  pub word : List ℕ
  pub is_word : IsWord m word
  pub differ : label_after m labels x word ≢ label_after m labels y word

-- how many binary digits a number has
abbrev pub binary_digits : ℕ → ℕ
binary_digits n = length (digits_of 2 n)

-- at most so many reads are made where a table is refined
abbrev pub read_limit : Moves → ℕ
read_limit m = 2 * m.units * m.rows * binary_digits m.rows

-- rows have one number exactly where they behave alike
abbrev pub AreAlikeByNumber : Moves → List ℕ → List ℕ → Type 0
AreAlikeByNumber m labels numbers =
    (x y : ℕ) → x < m.rows → y < m.rows → (slice_index numbers x ≡ slice_index numbers y) ↔ BehaveAlike m labels x y

-- a word tells rows with different numbers apart
abbrev pub AreToldByNumber : Moves → List ℕ → List ℕ → Type 0
AreToldByNumber m labels numbers =
    (x y : ℕ) → x < m.rows → y < m.rows → slice_index numbers x ≢ slice_index numbers y → AreToldApart m labels x y

-- each number up to the largest one stands there
abbrev pub AreWithoutGaps : List ℕ → Type 0
AreWithoutGaps numbers = (x number : ℕ) → x < length numbers → number < slice_index numbers x → Contains numbers number

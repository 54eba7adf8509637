-- Machines that read units, and what they tell of a word: automata with a label at each state, as Moore
-- has them.
use Rattle.std.specs.Prelude.{ℕ, ◌<◌, Bool, Option, List, [], ◌∷◌, Contains}
use Rattle.rx_spec.specs.Queries.{Anchored}
use Rattle.rx_spec.specs.declared.Start.{Start}
use Rattle.rx_spec.specs.declared.StartKind.{StartKind}

-- What a row tells: nothing, the patterns that matched before the unit that led here, or that the
-- search can't go on.
pub data Label : Type 0 where
  Plain : Label
  Matches : (patterns : List ℕ) → Label
  Quits : Label

abbrev pub label_of : List ℕ → Label
label_of [] = Plain
label_of (k ∷ ks) = Matches (k ∷ ks)

-- A deterministic machine: rows of some kind, the next row on each unit, a label for each row, and a
-- start row for each mode and start context.
pub record Machine (R : Type 0) : Type 0 where
  pub entry : Anchored → Start → R
  pub next : R → ℕ → R
  pub label : R → Label
  -- the row from which nothing is told any more
  pub is_dead : R → Bool

-- a word of units: bytes and end marks, in any order
abbrev pub IsWord : List ℕ → Type 0
IsWord word = (unit : ℕ) → Contains word unit → unit < 257

-- the row to which a word leads
unfoldable pub run : {R : Type 0} → (R → ℕ → R) → R → List ℕ → R
run next row [] = row
run next row (unit ∷ units) = run next (next row unit) units

-- How a search begins.
pub record Settings : Type 0 where
  -- for which modes there are start rows
  pub start_kind : StartKind
  -- for how many patterns there are start rows of their own, if for any
  pub pattern_starts : Option ℕ
  -- the start context that a byte beside the span gives
  pub start_of_byte : ℕ → Start
  -- the bytes that can't be searched
  pub quit : ℕ

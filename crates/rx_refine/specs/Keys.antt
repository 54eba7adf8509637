-- The rows that a unit leads into the blocks that it processes, if it processes many at once.
use Rattle.std.specs.Prelude.{ℕ, zero, suc, ◌≡◌, ◌<◌, ◌+◌, cond, List, length, slice_index, leb}
use Rattle.rx_refine.specs.Moves.{Moves, next_row, sources}
use Rattle.rx_refine.specs.Parts.{Parts, SplitsByKey}

-- the sum of the values at the numbers below a bound
abbrev pub total : (ℕ → ℕ) → ℕ → ℕ
total f zero = 0
total f (suc n) = total f n + f n

-- what the lists of a row cost where its block is taken: a block from `taken` on
abbrev pub waiting_cost : Moves → ℕ → List ℕ → ℕ → ℕ → ℕ
waiting_cost m unit blocks taken row = cond (leb taken (slice_index blocks row)) (1 + length (sources m row unit)) 0

-- how many reads there are where all these blocks are taken
abbrev pub waiting_reads : Moves → ℕ → List ℕ → ℕ → ℕ
waiting_reads m unit blocks taken = total (waiting_cost m unit blocks taken) m.rows

-- the block to which a unit leads a row, or 0 where the unit took that block before
abbrev pub next_key : Moves → ℕ → List ℕ → ℕ → ℕ → ℕ
next_key m unit blocks taken row =
    cond (leb taken (slice_index blocks (next_row m row unit))) (slice_index blocks (next_row m row unit)) 0

abbrev pub AreNextKeys : Moves → ℕ → List ℕ → ℕ → List ℕ → Type 0
AreNextKeys m unit blocks taken keys =
    (row : ℕ) → row < m.rows → slice_index keys row ≡ next_key m unit blocks taken row

-- each block is split by the blocks from `taken` on to which the unit leads its rows
pub record TakesAll (m : Moves) (unit : ℕ) (old : Parts) (taken : ℕ) (new : Parts) : Type 0 where
  pub keys : List ℕ
  pub are : AreNextKeys m unit old.blocks taken keys
  pub splits : SplitsByKey old keys new

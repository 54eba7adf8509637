-- What writing into a sink means.
use Rattle.std.specs.Prelude.{ℕ, ◌-◌, ◌<◌, ◌≤◌, ◌==◌, ◌||◌, min, Bool, if◌then◌else◌, Option, List, length, take}
use Rattle.std.specs.Prelude.{◌++◌}
use Rattle.std.specs.Io.KnownBytes.{Appends, Keeps}
use Rattle.rx_base.specs.Outside.{one_more, Rose, fails_at}
use Rattle.rx_base.specs.declared.sink.WriteAnswer.{WriteAnswer}
use Rattle.rx_base.specs.declared.sink.WriteAnswer.TheVariants.{Took, Failed}

-- What an answer says of the bytes written before and after, where they are told: the first bytes of
-- the piece were added, or none.
abbrev pub Writes : Option (List ℕ) → Option (List ℕ) → WriteAnswer → List ℕ → Type 0
Writes before after (Took n) piece = (0 < n) × (n ≤ length piece) × Appends before after (take n piece)
Writes before after Failed piece = Keeps before after

-- What an answer says of the count of faults before and after: it rose where the write failed. It never falls; a
-- sink that tries again after a fault may have counted one and take bytes all the same.
abbrev pub WriteCause : ℕ → ℕ → WriteAnswer → Type 0
WriteCause before now (Took n) = before ≤ now
WriteCause before now Failed = Rose before now

-- The count after an answer where failed writes alone are counted, each once.
abbrev pub failed_writes : ℕ → WriteAnswer → ℕ
failed_writes before (Took n) = before
failed_writes before Failed = one_more before

-- A sink in memory: the bytes written, how many there can be, the most that a write takes, the numbers
-- of the writes that fail, and how many writes and faults there were.
pub record MemoryWritten : Type 0 where
  pub written : List ℕ
  pub capacity : ℕ
  pub step : ℕ
  pub fails : List ℕ
  pub calls : ℕ
  pub faults : ℕ

-- whether the next write fails: by its number, or since there is no room
abbrev pub refuses : MemoryWritten → Bool
refuses s = fails_at s.fails (one_more s.calls) || (s.capacity - length s.written == 0)

-- how many bytes of a piece of this length it takes
abbrev pub taken : MemoryWritten → ℕ → ℕ
taken s len = min s.step (min len (s.capacity - length s.written))

-- what a write of a piece answers, and what it leaves
abbrev pub write_answer : MemoryWritten → List ℕ → WriteAnswer
write_answer s piece = if refuses s then Failed else Took (taken s (length piece))

abbrev pub after_write : MemoryWritten → List ℕ → MemoryWritten
after_write s piece =
    if refuses s
    then record s { calls = one_more s.calls; faults = one_more s.faults }
    else record s { written = s.written ++ take (taken s (length piece)) piece; calls = one_more s.calls }

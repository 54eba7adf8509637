-- What reading from a source means.
use Rattle.std.specs.Prelude.{ℕ, ◌<◌, ◌≤◌, ◌==◌, min, if◌then◌else◌, Option, List, length, take, drop}
use Rattle.std.specs.Io.KnownBytes.{Consumes, Keeps, IsAtEnd}
use Rattle.rx_base.specs.Outside.{one_more, Rose, fails_at}
use Rattle.rx_base.specs.declared.source.ReadAnswer.{ReadAnswer}
use Rattle.rx_base.specs.declared.source.ReadAnswer.TheVariants.{Got, End, Failed}

-- What an answer says of the bytes left before and after, where they are told, and of the buffer: the
-- first bytes left stand in it, or none is left, or nothing was read.
abbrev pub Reads : Option (List ℕ) → Option (List ℕ) → ReadAnswer → List ℕ → Type 0
Reads before after (Got n) buffer = (0 < n) × (n ≤ length buffer) × Consumes before after (take n buffer)
Reads before after End buffer = Keeps before after × IsAtEnd after
Reads before after Failed buffer = Keeps before after

-- What an answer says of the count of faults before and after: it rose where the read failed. It never falls; a
-- source that tries again after a fault may have counted one and give bytes all the same.
abbrev pub ReadCause : ℕ → ℕ → ReadAnswer → Type 0
ReadCause before now (Got n) = before ≤ now
ReadCause before now End = before ≤ now
ReadCause before now Failed = Rose before now

-- The count after an answer where failed reads alone are counted, each once.
abbrev pub failed_reads : ℕ → ReadAnswer → ℕ
failed_reads before (Got n) = before
failed_reads before End = before
failed_reads before Failed = one_more before

-- A source in memory: the bytes left, the most that a read gives, the numbers of the reads that fail,
-- and how many reads and faults there were.
pub record MemoryLeft : Type 0 where
  pub left : List ℕ
  pub step : ℕ
  pub fails : List ℕ
  pub calls : ℕ
  pub faults : ℕ

-- how many bytes a read into a buffer of this length gives
abbrev pub given : MemoryLeft → ℕ → ℕ
given s room = min s.step (min room (length s.left))

-- what such a read answers, and what it leaves
abbrev pub read_answer : MemoryLeft → ℕ → ReadAnswer
read_answer s room =
    if fails_at s.fails (one_more s.calls) then Failed else (if length s.left == 0 then End else Got (given s room))

abbrev pub after_read : MemoryLeft → ℕ → MemoryLeft
after_read s room =
    if fails_at s.fails (one_more s.calls)
    then record s { calls = one_more s.calls; faults = one_more s.faults }
    else record s { left = drop (given s room) s.left; calls = one_more s.calls }

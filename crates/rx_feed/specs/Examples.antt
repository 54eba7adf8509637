-- Worked examples of the lines of `feed` for short texts. The table is for all matches of the letter a, which is
-- pattern 0 and pattern 1, and z is a quit byte. A match is reported after the next letter, or at the end.
use Rattle.std.specs.Prelude.{ℕ, false, true, List, [], ◌++◌, codes}
use Rattle.rx_spec.specs.Queries.{Anchored}
use Rattle.rx_transfer.specs.Words.{newline}
use Rattle.rx_stream.specs.Examples.{letter}
use Rattle.rx_feed.specs.Replies.{StreamReplies}

abbrev pub line : List ℕ → List ℕ
line text = text ++ newline

-- both patterns, in the text aa
abbrev pub first_lines : List ℕ
first_lines = line (codes "match 0 1") ++ line (codes "match 1 1")

abbrev pub last_lines : List ℕ
last_lines = line (codes "match 0 2") ++ line (codes "match 1 2")

abbrev pub EndsText : Type 0
EndsText =
    StreamReplies letter Anchored.No (codes "aa") true (first_lines ++ (last_lines ++ line (codes "end 2"))) 0

-- A quit byte right after a match hides the match.
abbrev pub QuitsText : Type 0
QuitsText = StreamReplies letter Anchored.No (codes "aaz") false (first_lines ++ line (codes "quit 7a 2")) 4

-- The table has no start states for a single pattern.
abbrev pub RefusesMode : Type 0
RefusesMode = StreamReplies letter (Anchored.Pattern 0) [] false (line (codes "unsupported p0")) 4

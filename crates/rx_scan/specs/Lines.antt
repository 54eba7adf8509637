-- What a scanner knows of the current line.
use Rattle.std.specs.Prelude.{ℕ, ◌≡◌, ◌≤◌, List, length}
use Rattle.rx_scan.specs.Tokens.{line_feeds, line_start}
use Rattle.rx_scan.specs.declared.lines.Lines.{Lines}

-- It is the line of the known place, before which no line feed stands in it.
pub record AreLines (text : List ℕ) (lines : Lines) : Type 0 where
  pub feeds : lines.feeds ≡ line_feeds text lines.known
  pub start : lines.start ≡ line_start text lines.known
  pub within : lines.known ≤ length text

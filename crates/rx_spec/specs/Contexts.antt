-- What is remembered of the unit that was read last: as much as the assertions of the rows ask of it. So
-- an assertion is decided one unit late, when both its neighbours are known, as in RE2 and regex-automata.
use Rattle.std.specs.Prelude.{ℕ, Bool, true, false, not, ◌==◌, ◌&&◌, ◌||◌, if◌then◌else◌, Option, Some, None, List, []}
use Rattle.std.specs.Prelude.{◌∷◌}
use Rattle.rx_spec.specs.Bytes.{is_word}
use Rattle.rx_spec.specs.Looks.{differ}
use Rattle.rx_spec.specs.Rows.{Row}
use Rattle.rx_spec.specs.declared.Direction.{Direction}
use Rattle.rx_spec.specs.declared.Look.{Look}
use Rattle.rx_spec.specs.declared.Start.{Start}

-- facts of a neighbour: that it is absent, the line terminator, \n, \r, a word byte
pub record Facts : Type 0 where
  pub text : Bool
  pub line_terminator : Bool
  pub lf : Bool
  pub cr : Bool
  pub word : Bool

abbrev pub no_facts : Facts
no_facts = record { text = false; line_terminator = false; lf = false; cr = false; word = false }

abbrev pub text_facts : Facts
text_facts = record { text = true; line_terminator = false; lf = false; cr = false; word = false }

-- the facts that are true of a neighbour, under a line terminator
abbrev pub facts_of : ℕ → Option ℕ → Facts
facts_of t None = text_facts
facts_of t (Some b) = record { text = false; line_terminator = b == t; lf = b == 10; cr = b == 13; word = is_word b }

-- those of a unit: the end mark is an absent neighbour
abbrev pub unit_facts : ℕ → ℕ → Facts
unit_facts t unit = if unit == 256 then text_facts else facts_of t (Some unit)

-- the facts in both, and in either
abbrev pub both : Facts → Facts → Facts
both x y = record {
  text = x.text && y.text;
  line_terminator = x.line_terminator && y.line_terminator;
  lf = x.lf && y.lf;
  cr = x.cr && y.cr;
  word = x.word && y.word;
}

abbrev pub either_of : Facts → Facts → Facts
either_of x y = record {
  text = x.text || y.text;
  line_terminator = x.line_terminator || y.line_terminator;
  lf = x.lf || y.lf;
  cr = x.cr || y.cr;
  word = x.word || y.word;
}

-- whether an assertion holds between two neighbours of which the facts are known
abbrev pub holds_by : Look → Facts → Facts → Bool
holds_by Look.Start b a = b.text
holds_by Look.End b a = a.text
holds_by Look.StartLF b a = b.text || b.line_terminator
holds_by Look.EndLF b a = a.text || a.line_terminator
holds_by Look.StartCRLF b a = b.text || b.lf || (b.cr && not a.lf)
holds_by Look.EndCRLF b a = a.text || a.cr || (a.lf && not b.cr)
holds_by Look.WordAscii b a = differ b.word a.word
holds_by Look.WordAsciiNegate b a = not (differ b.word a.word)
holds_by Look.WordUnicode b a = differ b.word a.word
holds_by Look.WordUnicodeNegate b a = not (differ b.word a.word)
holds_by Look.WordStartAscii b a = a.word && not b.word
holds_by Look.WordEndAscii b a = b.word && not a.word
holds_by Look.WordStartUnicode b a = a.word && not b.word
holds_by Look.WordEndUnicode b a = b.word && not a.word
holds_by Look.WordStartHalfAscii b a = not b.word
holds_by Look.WordEndHalfAscii b a = not a.word
holds_by Look.WordStartHalfUnicode b a = not b.word
holds_by Look.WordEndHalfUnicode b a = not a.word

-- the same in the order of reading: in reverse, what was read last stands after
abbrev pub holds_read : Direction → Look → Facts → Facts → Bool
holds_read Direction.Forward look last next = holds_by look last next
holds_read Direction.Reverse look last next = holds_by look next last

-- the facts that an assertion reads, by its family: text, line, CRLF, word
abbrev pub facts_read : Look → Facts
facts_read Look.Start = text_facts
facts_read Look.End = text_facts
facts_read Look.StartLF = record { text = true; line_terminator = true; lf = false; cr = false; word = false }
facts_read Look.EndLF = record { text = true; line_terminator = true; lf = false; cr = false; word = false }
facts_read Look.StartCRLF = record { text = true; line_terminator = false; lf = true; cr = true; word = false }
facts_read Look.EndCRLF = record { text = true; line_terminator = false; lf = true; cr = true; word = false }
facts_read _ = record { text = false; line_terminator = false; lf = false; cr = false; word = true }

abbrev pub row_reads : Row → Facts
row_reads (Row.Look look next) = facts_read look
row_reads _ = no_facts

-- the facts that some assertion of the rows reads
unfoldable pub facts_kept : List Row → Facts
facts_kept [] = no_facts
facts_kept (row ∷ rows) = either_of (row_reads row) (facts_kept rows)

-- Which start context the byte beside a span gives, where a search begins: a line terminator other than
-- \n and \r has its own.
abbrev pub start_of_byte : ℕ → ℕ → Start
start_of_byte t b =
    if b == 10 then Start.LineLF
    else (if b == 13 then Start.LineCR
    else (if b == t then Start.CustomLineTerminator
    else (if is_word b then Start.WordByte else Start.NonWordByte)))

abbrev pub start_of : ℕ → Option ℕ → Start
start_of t None = Start.Text
start_of t (Some b) = start_of_byte t b

-- what is known in a start context
abbrev pub start_facts : ℕ → Start → Facts
start_facts t Start.NonWordByte = no_facts
start_facts t Start.WordByte = record { text = false; line_terminator = false; lf = false; cr = false; word = true }
start_facts t Start.Text = text_facts
start_facts t Start.LineLF = facts_of t (Some 10)
start_facts t Start.LineCR = facts_of t (Some 13)
start_facts t Start.CustomLineTerminator = facts_of t (Some t)

-- the six of them, in the order in which a table keeps its start entries
abbrev pub all_starts : List Start
all_starts =
    Start.NonWordByte ∷ Start.WordByte ∷ Start.Text ∷ Start.LineLF ∷ Start.LineCR ∷ Start.CustomLineTerminator ∷ []

-- The lines of the command `feed`.
use Rattle.std.specs.Prelude.{ℕ, ◌/◌, ◌%◌, List, [], ◌∷◌, ◌++◌, codes}
use Rattle.std.specs.Fmt.{decimal}
use Rattle.std.specs.List.{flat_map}
use Rattle.rx_spec.specs.Queries.{Anchored}
use Rattle.rx_stream.specs.declared.event.StreamEvent.{StreamEvent}
use Rattle.rx_wire.specs.Kinds.{Kind}
use Rattle.rx_transfer.specs.Words.{newline, hex_code, mode_name, test_name}

-- ---- events

abbrev pub quit_line : ℕ → ℕ → List ℕ
quit_line byte offset =
    codes "quit " ++ (hex_code (byte / 16) ∷ (hex_code (byte % 16) ∷ (codes " " ++ (decimal offset ++ newline))))

abbrev pub event_line : StreamEvent → List ℕ
event_line (StreamEvent.Match found) =
    codes "match " ++ (decimal found.pattern ++ (codes " " ++ (decimal found.offset ++ newline)))
event_line (StreamEvent.Quit byte offset) = quit_line byte offset

abbrev pub lines : List StreamEvent → List ℕ
lines events = flat_map event_line events

abbrev pub IsMatch : StreamEvent → Type 0
IsMatch (StreamEvent.Match found) = Unit {0}
IsMatch (StreamEvent.Quit byte offset) = ⊥

-- the lines of the matches alone
abbrev pub match_line : StreamEvent → List ℕ
match_line (StreamEvent.Match found) = event_line (StreamEvent.Match found)
match_line (StreamEvent.Quit byte offset) = []

abbrev pub match_lines : List StreamEvent → List ℕ
match_lines events = flat_map match_line events

-- ---- ends

-- how many bytes a text has
abbrev pub end_line : ℕ → List ℕ
end_line count = codes "end " ++ (decimal count ++ newline)

-- a text has more bytes than are read
abbrev pub long_line : List ℕ
long_line = codes "long" ++ newline

-- ---- no search

abbrev pub unsupported_line : Anchored → List ℕ
unsupported_line mode = codes "unsupported " ++ (mode_name mode ++ newline)

-- the test that an image fails
abbrev pub refused_line : Kind → List ℕ
refused_line kind = codes "refused " ++ (test_name kind ++ newline)

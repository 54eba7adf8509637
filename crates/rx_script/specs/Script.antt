-- The script of the definitions that a script of the code means.
use Rattle.std.specs.Prelude.{ℕ, ◌<◌, false, length, option_map}
use Rattle.rx_base.specs.Search.{mode_of}
use Rattle.rx_spec.specs.Queries.{Query}
use Rattle.rx_script.specs.declared.script.ScriptInput.{ScriptInput}
use Rattle.rx_script.specs.declared.script.Script.{Script}
use Rattle.rx_script.specs.declared.script.NextLine.{NextLine}
use Rattle.rx_script.specs.Pieces.{lines_of, words_left}
use Rattle.rx_script.specs.Grammar.{Spelled}
use Rattle.rx_script.specs.Reading.{Next}

-- what is asked
abbrev pub asked_read : ScriptInput → Query
asked_read input =
    record {
      haystack = input.haystack;
      start = input.start;
      end = input.end;
      mode = mode_of input.mode;
      earliest = false;
    }

abbrev pub script_read : Script → Spelled
script_read s = record { plan = s.plan; rows = s.rows; exprs = s.exprs; asked = option_map asked_read s.input }

-- what is left of the text after a line is seen as its lines
abbrev pub next_read : NextLine → Next
next_read (NextLine.Expr e text) = Next.Expr e (lines_of text.now)
next_read (NextLine.Input words text) = Next.Input (words_left words) (lines_of text.now)
next_read NextLine.End = Next.End

-- fewer bytes than so many
abbrev pub LeavesFewer : NextLine → ℕ → Type 0
LeavesFewer (NextLine.Expr e text) n = length text.now < n
LeavesFewer (NextLine.Input words text) n = length text.now < n
LeavesFewer NextLine.End n = Unit {0}

-- Reading a script line by line, with the first fault.
use Rattle.std.specs.Prelude.{ℕ, ◌+◌, Bool, true, false, ◌&&◌, nat_le, if◌then◌else◌, List, [], ◌∷◌, length, Option}
use Rattle.std.specs.Prelude.{Some, None}
use Rattle.std.specs.Prelude.{Result, Ok}
use Rattle.rx_spec.specs.Expressions.{Expression}
use Rattle.rx_spec.specs.Queries.{Query}
use Rattle.rx_base.specs.Search.{mode_of}
use Rattle.rx_base.specs.declared.search.Anchored.{Anchored as Mode}
use Rattle.rx_script.specs.declared.fault.BadKind.{BadKind}
use Rattle.rx_script.specs.declared.names.LineKind.{LineKind}
use Rattle.rx_script.specs.declared.plan_words.Choices.{Choices}
use Rattle.rx_script.specs.declared.script.InputLine.{InputLine}
use Rattle.rx_script.specs.Faults.{Fault, refused, needed, ◌>>=◌}
use Rattle.rx_script.specs.Pieces.{lines_of, words_of, is_spaced}
use Rattle.rx_script.specs.Names.{line_kind}
use Rattle.rx_script.specs.Tokens.{number_of, bytes_of, mode_word}
use Rattle.rx_script.specs.Plans.{unplanned, plan_of}
use Rattle.rx_script.specs.Grammar.{Spelled}
use Rattle.rx_script.specs.Items.{expression_at}

-- ---- one line

-- the kind of a line and the words after its first one
abbrev pub kind_of : List (List ℕ) → Option LineKind
kind_of [] = None
kind_of (word ∷ words) = line_kind word

abbrev pub others_of : List (List ℕ) → List (List ℕ)
others_of [] = []
others_of (word ∷ words) = words

abbrev pub line_at : ℕ → List ℕ → Result (Option LineKind × List (List ℕ)) Fault
line_at n line =
    if is_spaced true line then Ok (kind_of (words_of line), others_of (words_of line)) else refused n BadKind.Words

-- ---- the input and the haystack

-- a span and a mode
abbrev pub asked_of : Option ℕ → Option ℕ → Option Mode → Option InputLine
asked_of None end mode = None
asked_of (Some a) None mode = None
asked_of (Some a) (Some b) None = None
asked_of (Some a) (Some b) (Some m) = Some (record { start = a; end = b; mode = m })

abbrev pub input_words : List (List ℕ) → Option InputLine
input_words (start ∷ (end ∷ (mode ∷ []))) = asked_of (number_of start) (number_of end) (mode_word mode)
input_words _ = None

abbrev pub hay_words : List (List ℕ) → Option (List ℕ)
hay_words (word ∷ []) = bytes_of word
hay_words _ = None

-- nothing may follow
abbrev pub nothing_at : ℕ → List (List ℕ) → Result (Unit {0}) Fault
nothing_at n [] = Ok tt
nothing_at n (line ∷ lines) = line_at n line >>= λ read. refused n BadKind.Order

-- the span fits the haystack
abbrev pub fits : InputLine → List ℕ → Bool
fits asked hay = nat_le asked.end (length hay) && nat_le asked.start (asked.end + 1)

abbrev pub query_of : InputLine → List ℕ → Query
query_of asked hay =
    record { haystack = hay; start = asked.start; end = asked.end; mode = mode_of asked.mode; earliest = false }

unfoldable pub asked_at : ℕ → InputLine → List (List ℕ) → List (List ℕ) → Result Query Fault
asked_at n asked words lines =
    needed n BadKind.Hay (hay_words words)
    >>= λ hay. (if fits asked hay then (nothing_at (n + 1) lines >>= λ nothing. Ok (query_of asked hay))
    else refused n BadKind.Span)

abbrev pub hay_kind : ℕ → InputLine → Option LineKind → List (List ℕ) → List (List ℕ) → Result Query Fault
hay_kind n asked (Some LineKind.Hay) words lines = asked_at n asked words lines
hay_kind n asked _ words lines = refused n BadKind.Order

unfoldable pub hay_at : ℕ → InputLine → List (List ℕ) → Result Query Fault
hay_at n asked [] = refused n BadKind.Order
hay_at n asked (line ∷ lines) = line_at n line >>= λ read. hay_kind n asked read.0 read.1 lines

unfoldable pub input_at : ℕ → List (List ℕ) → List (List ℕ) → Result Query Fault
input_at n words lines = needed n BadKind.Input (input_words words) >>= λ asked. hay_at (n + 1) asked lines

-- ---- the expressions

-- what the next line is: an expression, an input, or none
pub data Next : Type 0 where
  Expr : (e : Expression) → (lines : List (List ℕ)) → Next
  Input : (words : List (List ℕ)) → (lines : List (List ℕ)) → Next
  End : Next

abbrev pub next_kind : Bool → ℕ → Option LineKind → List (List ℕ) → List (List ℕ) → Result Next Fault
next_kind with_input n (Some LineKind.Expr) words lines = expression_at n words >>= λ e. Ok (Next.Expr e lines)
next_kind true n (Some LineKind.Input) words lines = Ok (Next.Input words lines)
next_kind with_input n _ words lines = refused n BadKind.Order

-- a script with an input isn't ended before it
abbrev pub ended : Bool → ℕ → Result Next Fault
ended true n = refused n BadKind.Order
ended false n = Ok Next.End

unfoldable pub next_at : Bool → ℕ → List (List ℕ) → Result Next Fault
next_at with_input n [] = ended with_input n
next_at with_input n (line ∷ lines) = line_at n line >>= λ read. next_kind with_input n read.0 read.1 lines

-- what the lines after the plan say
abbrev pub Lines : Type 0
Lines = List Expression × Option Query

-- an expression in front of what is read after it
abbrev pub with_expr : Expression → Result Lines Fault → Result Lines Fault
with_expr e more = more >>= λ rest. Ok (e ∷ rest.0, rest.1)

abbrev pub read_after : ℕ → Result Lines Fault → Next → Result Lines Fault
read_after n more (Next.Expr e lines) = with_expr e more
read_after n more (Next.Input words lines) = input_at n words lines >>= λ query. Ok ([], Some query)
read_after n more Next.End = Ok ([], None)

-- the lines after the plan
unfoldable pub lines_at : Bool → ℕ → List (List ℕ) → Result Lines Fault
lines_at with_input n [] = next_at with_input n [] >>= read_after n (Ok ([], None))
lines_at with_input n (line ∷ lines) =
    next_at with_input n (line ∷ lines) >>= read_after n (lines_at with_input (n + 1) lines)

-- ---- the script

abbrev pub spelled : Choices → Result Lines Fault → Result Spelled Fault
spelled choices read =
    read >>= λ rest. Ok (record { plan = choices.plan; rows = choices.rows; exprs = rest.0; asked = rest.1 })

-- the plan line is the first one, if it is there
abbrev pub plan_kind
    : Option LineKind → List (List ℕ) → List (List ℕ) → Result (Option (Choices × List (List ℕ))) Fault
plan_kind (Some LineKind.Plan) words lines =
    needed 1 BadKind.Plan (plan_of words) >>= λ choices. Ok (Some (choices, lines))
plan_kind _ words lines = Ok None

unfoldable pub plan_at : List (List ℕ) → Result (Option (Choices × List (List ℕ))) Fault
plan_at [] = Ok None
plan_at (line ∷ lines) = line_at 1 line >>= λ read. plan_kind read.0 read.1 lines

abbrev pub planned : Bool → List (List ℕ) → Option (Choices × List (List ℕ)) → Result Spelled Fault
planned with_input lines None = spelled unplanned (lines_at with_input 1 lines)
planned with_input lines (Some plan) = spelled plan.0 (lines_at with_input 2 plan.1)

-- The script that a text spells, or its first fault.
unfoldable pub script_of : Bool → List ℕ → Result Spelled Fault
script_of with_input text = plan_at (lines_of text) >>= planned with_input (lines_of text)

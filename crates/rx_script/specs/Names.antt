-- The names of the words of a script. A word is looked up among them.
use Rattle.std.specs.Prelude.{ℕ, Bool, true, false, List, [], ◌∷◌, codes, find, Option}
use Rattle.std.specs.Str.{bytes_eq}
use Rattle.rx_spec.specs.declared.Look.{Look}
use Rattle.rx_spec.specs.declared.StartKind.{StartKind}
use Rattle.rx_script.specs.declared.names.LineKind.{LineKind}
use Rattle.rx_script.specs.declared.names.Head.{Head}
use Rattle.rx_script.specs.declared.names.PlanName.{PlanName}

-- the first of these with this name
abbrev pub named : {A : Type 0} → (A → List ℕ) → List A → List ℕ → Option A
named name things word = find (λ thing. bytes_eq word (name thing)) things

-- the first word of a line
abbrev pub line_name : LineKind → List ℕ
line_name LineKind.Plan = codes "plan"
line_name LineKind.Expr = codes "expr"
line_name LineKind.Input = codes "input"
line_name LineKind.Hay = codes "hay"

abbrev pub all_lines : List LineKind
all_lines = LineKind.Plan ∷ LineKind.Expr ∷ LineKind.Input ∷ LineKind.Hay ∷ []

-- the first word of an expression
abbrev pub head_name : Head → List ℕ
head_name Head.Empty = codes "eps"
head_name Head.Literal = codes "lit"
head_name Head.Class = codes "cls"
head_name Head.Look = codes "look"
head_name Head.Concat = codes "cat"
head_name Head.Alternate = codes "alt"
head_name Head.Repeat = codes "rep"

abbrev pub all_heads : List Head
all_heads = Head.Empty ∷ Head.Literal ∷ Head.Class ∷ Head.Look ∷ Head.Concat ∷ Head.Alternate ∷ Head.Repeat ∷ []

-- an assertion
abbrev pub look_name : Look → List ℕ
look_name Look.Start = codes "start"
look_name Look.End = codes "end"
look_name Look.StartLF = codes "startlf"
look_name Look.EndLF = codes "endlf"
look_name Look.StartCRLF = codes "startcrlf"
look_name Look.EndCRLF = codes "endcrlf"
look_name Look.WordAscii = codes "word"
look_name Look.WordAsciiNegate = codes "wordneg"
look_name Look.WordUnicode = codes "uword"
look_name Look.WordUnicodeNegate = codes "uwordneg"
look_name Look.WordStartAscii = codes "wordstart"
look_name Look.WordEndAscii = codes "wordend"
look_name Look.WordStartUnicode = codes "uwordstart"
look_name Look.WordEndUnicode = codes "uwordend"
look_name Look.WordStartHalfAscii = codes "wordstarthalf"
look_name Look.WordEndHalfAscii = codes "wordendhalf"
look_name Look.WordStartHalfUnicode = codes "uwordstarthalf"
look_name Look.WordEndHalfUnicode = codes "uwordendhalf"

abbrev pub all_looks : List Look
all_looks =
    Look.Start ∷ Look.End ∷ Look.StartLF ∷ Look.EndLF ∷ Look.StartCRLF ∷ Look.EndCRLF
    ∷ Look.WordAscii ∷ Look.WordAsciiNegate ∷ Look.WordUnicode ∷ Look.WordUnicodeNegate
    ∷ Look.WordStartAscii ∷ Look.WordEndAscii ∷ Look.WordStartUnicode ∷ Look.WordEndUnicode
    ∷ Look.WordStartHalfAscii ∷ Look.WordEndHalfAscii ∷ Look.WordStartHalfUnicode ∷ Look.WordEndHalfUnicode ∷ []

-- whether a repetition is greedy
abbrev pub greed_name : Bool → List ℕ
greed_name true = codes "greedy"
greed_name false = codes "lazy"

-- whether a search that names no pattern is anchored
abbrev pub anchored_name : Bool → List ℕ
anchored_name true = codes "yes"
anchored_name false = codes "no"

abbrev pub truths : List Bool
truths = true ∷ false ∷ []

-- a word of a plan line, or its part before the equals sign
abbrev pub plan_name : PlanName → List ℕ
plan_name PlanName.Start = codes "start"
plan_name PlanName.Patterns = codes "patterns"
plan_name PlanName.NoClasses = codes "noclasses"
plan_name PlanName.Quit = codes "quit"
plan_name PlanName.UnicodeWord = codes "uword"
plan_name PlanName.LineTerminator = codes "lt"
plan_name PlanName.NfaLimit = codes "nfa"
plan_name PlanName.DfaLimit = codes "dfa"
plan_name PlanName.DeterminizeLimit = codes "det"
plan_name PlanName.Minimize = codes "minimize"
plan_name PlanName.NoAccelerate = codes "noaccel"
plan_name PlanName.Mark = codes "mark"
plan_name PlanName.Sparse = codes "sparse"
plan_name PlanName.Bytes = codes "bytes"
plan_name PlanName.Pair = codes "pair"
plan_name PlanName.Rows = codes "rows"

abbrev pub all_plan_names : List PlanName
all_plan_names =
    PlanName.Start ∷ PlanName.Patterns ∷ PlanName.NoClasses ∷ PlanName.Quit ∷ PlanName.UnicodeWord
    ∷ PlanName.LineTerminator ∷ PlanName.NfaLimit ∷ PlanName.DfaLimit ∷ PlanName.DeterminizeLimit
    ∷ PlanName.Minimize ∷ PlanName.NoAccelerate ∷ PlanName.Mark ∷ PlanName.Sparse ∷ PlanName.Bytes
    ∷ PlanName.Pair ∷ PlanName.Rows ∷ []

-- for which modes there are starts
abbrev pub start_name : StartKind → List ℕ
start_name StartKind.Both = codes "both"
start_name StartKind.Unanchored = codes "unanchored"
start_name StartKind.Anchored = codes "anchored"

abbrev pub all_starts : List StartKind
all_starts = StartKind.Both ∷ StartKind.Unanchored ∷ StartKind.Anchored ∷ []

-- ---- what a word names

unfoldable pub line_kind : List ℕ → Option LineKind
line_kind word = named line_name all_lines word

unfoldable pub head_of : List ℕ → Option Head
head_of word = named head_name all_heads word

unfoldable pub look_of : List ℕ → Option Look
look_of word = named look_name all_looks word

unfoldable pub greed_of : List ℕ → Option Bool
greed_of word = named greed_name truths word

unfoldable pub anchored_of : List ℕ → Option Bool
anchored_of word = named anchored_name truths word

unfoldable pub plan_name_of : List ℕ → Option PlanName
plan_name_of word = named plan_name all_plan_names word

unfoldable pub start_of : List ℕ → Option StartKind
start_of word = named start_name all_starts word

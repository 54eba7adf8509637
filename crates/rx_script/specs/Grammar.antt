-- The grammar of scripts: how a script is spelled. It mentions no reader.
use Rattle.std.specs.Prelude.{◌≡◌, ◌≢◌, ◌⊎◌, ℕ, ◌+◌, ◌*◌, ◌<◌, ◌≤◌, Bool, true, false, List, [], ◌∷◌, ◌++◌, length}
use Rattle.std.specs.Prelude.{map}
use Rattle.std.specs.Prelude.{codes, bit_or, Option, Some, None}
use Rattle.std.specs.List.{AllByRecursion, join_with_byte}
use Rattle.std.specs.Fmt.{decimal}
use Rattle.rx_spec.specs.Bytes.{between}
use Rattle.rx_spec.specs.Expressions.{Expression, depth, IsBounded}
use Rattle.rx_spec.specs.Queries.{Anchored, Query}
use Rattle.rx_spec.specs.Causes.{max_id}
use Rattle.rx_spec.specs.declared.Look.{Look as Assertion}
use Rattle.rx_expr.specs.Expr.{literal_of}
use Rattle.rx_plan.specs.declared.Plan.{Plan}
use Rattle.rx_script.specs.declared.names.LineKind.{LineKind}
use Rattle.rx_script.specs.declared.names.Head.{Head}
use Rattle.rx_script.specs.declared.plan_words.PlanWord.{PlanWord}
use Rattle.rx_script.specs.declared.plan_words.Choices.{Choices}
use Rattle.rx_script.specs.Names.{line_name, head_name, look_name, greed_name, anchored_name, plan_name, start_name}
use Rattle.rx_script.specs.Tokens.{number_limit}
use Rattle.rx_script.specs.Plans.{unplanned, name_of, chosen_by, with_word}

-- What a script says: its plan and whether it asks for the row counts, its expressions, and what is asked,
-- where that is part of it.
pub record Spelled : Type 0 where
  pub plan : Plan
  pub rows : Bool
  pub exprs : List Expression
  pub asked : Option Query

-- ---- lines and words

-- A word is visible bytes of ASCII, at least one; a line is at least one word.
abbrev pub IsVisible : ℕ → Type 0
IsVisible b = (33 ≤ b) × (b ≤ 126)

abbrev pub IsWord : List ℕ → Type 0
IsWord word = (0 < length word) × AllByRecursion IsVisible word

abbrev pub IsLine : List (List ℕ) → Type 0
IsLine words = (0 < length words) × AllByRecursion IsWord words

-- a space between two words, and the byte 10 between two lines
abbrev pub line_text : List (List ℕ) → List ℕ
line_text words = join_with_byte 32 words

abbrev pub lines_text : List (List (List ℕ)) → List ℕ
lines_text lines = join_with_byte 10 (map line_text lines)

-- Lines are spelled so, and after the last one there may be one more byte 10.
pub record SpellsLines (lines : List (List (List ℕ))) (text : List ℕ) : Type 0 where
  pub each : AllByRecursion IsLine lines
  pub joined : (text ≡ lines_text lines) ⊎ ((0 < length lines) × (text ≡ lines_text lines ++ 10 ∷ []))

-- ---- numbers, bytes and sets

-- a number, in decimal
abbrev pub SpellsNumber : ℕ → List ℕ → Type 0
SpellsNumber n word = (n < number_limit) × (word ≡ decimal n)

-- a hexadecimal digit of either case
abbrev pub SpellsDigit : ℕ → ℕ → Type 0
SpellsDigit value c =
    ((value < 10) × (c ≡ 48 + value))
    ⊎ ((10 ≤ value) × (value < 16) × ((c ≡ 87 + value) ⊎ (c ≡ 55 + value)))

-- two digits, and a word of two digits
abbrev pub SpellsPair : ℕ → ℕ → ℕ → Type 0
SpellsPair byte high low = (h : ℕ) × (l : ℕ) × SpellsDigit h high × SpellsDigit l low × (byte ≡ 16 * h + l)

pub record SpellsByte (byte : ℕ) (word : List ℕ) : Type 0 where
  pub high : ℕ
  pub low : ℕ
  pub digits : SpellsPair byte high low
  pub word_is : word ≡ high ∷ (low ∷ [])

abbrev pub SpellsPairs : List ℕ → List ℕ → Type 0
SpellsPairs [] [] = Unit {0}
SpellsPairs [] (c ∷ cs) = ⊥
SpellsPairs (b ∷ bs) [] = ⊥
SpellsPairs (b ∷ bs) (high ∷ []) = ⊥
SpellsPairs (b ∷ bs) (high ∷ (low ∷ cs)) = SpellsPair b high low × SpellsPairs bs cs

-- a pair of digits for each byte, and a dash for no byte
abbrev pub SpellsBytes : List ℕ → List ℕ → Type 0
SpellsBytes [] word = word ≡ codes "-"
SpellsBytes (b ∷ bs) word = SpellsPairs (b ∷ bs) word

-- two bytes with a dash between, the first at most the second
pub record SpellsDashed (range : ℕ × ℕ) (piece : List ℕ) : Type 0 where
  pub first : List ℕ
  pub last : List ℕ
  pub first_spelled : SpellsByte range.0 first
  pub last_spelled : SpellsByte range.1 last
  pub ordered : range.0 ≤ range.1
  pub piece_is : piece ≡ first ++ (codes "-" ++ last)

-- one byte, or two
abbrev pub SpellsRange : ℕ × ℕ → List ℕ → Type 0
SpellsRange range piece = (SpellsByte range.0 piece × (range.1 ≡ range.0)) ⊎ SpellsDashed range piece

abbrev pub SpellsRanges : List (ℕ × ℕ) → List (List ℕ) → Type 0
SpellsRanges [] [] = Unit {0}
SpellsRanges [] (piece ∷ pieces) = ⊥
SpellsRanges (range ∷ ranges) [] = ⊥
SpellsRanges (range ∷ ranges) (piece ∷ pieces) = SpellsRange range piece × SpellsRanges ranges pieces

-- the union of ranges
abbrev pub with_range : ℕ → ℕ × ℕ → ℕ
with_range set range = bit_or set (between range.0 range.1)

abbrev pub union_onto : ℕ → List (ℕ × ℕ) → ℕ
union_onto set [] = set
union_onto set (range ∷ ranges) = union_onto (with_range set range) ranges

-- at least one range, with commas between
pub record SpellsUnion (set : ℕ) (word : List ℕ) : Type 0 where
  pub ranges : List (ℕ × ℕ)
  pub pieces : List (List ℕ)
  pub some : 0 < length pieces
  pub spelled : SpellsRanges ranges pieces
  pub joined : word ≡ join_with_byte 44 pieces
  pub made : set ≡ union_onto 0 ranges

-- such ranges, or the word none for the empty set
abbrev pub SpellsSet : ℕ → List ℕ → Type 0
SpellsSet set word = ((word ≡ codes "none") × (set ≡ 0)) ⊎ SpellsUnion set word

-- ---- expressions

-- the most rounds of a repetition
abbrev pub SpellsMost : Option ℕ → List ℕ → Type 0
SpellsMost None word = word ≡ codes "inf"
SpellsMost (Some n) word = SpellsNumber n word

-- an expression as it is written
pub data Phrase : Type 0 where
  Empty : Phrase
  Literal : (bytes : List ℕ) → Phrase
  Class : (set : ℕ) → Phrase
  Look : (look : Assertion) → Phrase
  Concat : (first : Phrase) → (second : Phrase) → Phrase
  Alternate : (first : Phrase) → (second : Phrase) → Phrase
  Repeat : (least : ℕ) → (most : Option ℕ) → (greedy : Bool) → (body : Phrase) → Phrase

-- two words lists one after the other, after a head
pub record SpellsTwo (head : Head) (P Q : List (List ℕ) → Type 0) (words : List (List ℕ)) : Type 0 where
  pub first : List (List ℕ)
  pub second : List (List ℕ)
  pub first_spelled : P first
  pub second_spelled : Q second
  pub joined : words ≡ head_name head ∷ (first ++ second)

-- a head and one word after it
abbrev pub SpellsLeaf : Head → (List ℕ → Type 0) → List (List ℕ) → Type 0
SpellsLeaf head P words = (word : List ℕ) × P word × (words ≡ head_name head ∷ (word ∷ []))

-- the bounds of a repetition, and a body after them
pub record SpellsRepeat
    (least : ℕ) (most : Option ℕ) (greedy : Bool) (P : List (List ℕ) → Type 0) (words : List (List ℕ)) : Type 0 where
  pub low : List ℕ
  pub high : List ℕ
  pub body : List (List ℕ)
  pub least_spelled : SpellsNumber least low
  pub most_spelled : SpellsMost most high
  pub body_spelled : P body
  pub joined : words ≡ head_name Head.Repeat ∷ (low ∷ (high ∷ (greed_name greedy ∷ body)))

-- its words, in prefix order
abbrev pub SpellsPhrase : Phrase → List (List ℕ) → Type 0
SpellsPhrase Empty words = words ≡ head_name Head.Empty ∷ []
SpellsPhrase (Literal bytes) words = SpellsLeaf Head.Literal (SpellsBytes bytes) words
SpellsPhrase (Class set) words = SpellsLeaf Head.Class (SpellsSet set) words
SpellsPhrase (Look look) words = SpellsLeaf Head.Look (λ word. word ≡ look_name look) words
SpellsPhrase (Concat a b) words = SpellsTwo Head.Concat (SpellsPhrase a) (SpellsPhrase b) words
SpellsPhrase (Alternate a b) words = SpellsTwo Head.Alternate (SpellsPhrase a) (SpellsPhrase b) words
SpellsPhrase (Repeat least most greedy body) words = SpellsRepeat least most greedy (SpellsPhrase body) words

-- the expression that it stands for
abbrev pub meaning : Phrase → Expression
meaning Empty = Expression.Empty
meaning (Literal bytes) = literal_of bytes
meaning (Class set) = Expression.Class set
meaning (Look look) = Expression.Look look
meaning (Concat a b) = Expression.Concat (meaning a) (meaning b)
meaning (Alternate a b) = Expression.Alternate (meaning a) (meaning b)
meaning (Repeat least most greedy body) = Expression.Repeat least most greedy (meaning body)

-- the greatest depth of an expression
abbrev pub max_depth : ℕ
max_depth = 200

abbrev pub IsShallow : Expression → Type 0
IsShallow e = depth e ≤ max_depth

-- each constructor takes its parts: no repetition is out of bounds, and no form is too deep
abbrev pub IsAccepted : Phrase → Type 0
IsAccepted Empty = Unit {0}
IsAccepted (Literal bytes) = Unit {0}
IsAccepted (Class set) = Unit {0}
IsAccepted (Look look) = Unit {0}
IsAccepted (Concat a b) = IsAccepted a × IsAccepted b × IsShallow (Expression.Concat (meaning a) (meaning b))
IsAccepted (Alternate a b) = IsAccepted a × IsAccepted b × IsShallow (Expression.Alternate (meaning a) (meaning b))
IsAccepted (Repeat least most greedy body) =
    IsAccepted body × IsBounded least most (meaning body)
    × IsShallow (Expression.Repeat least most greedy (meaning body))

pub record SpellsExpression (e : Expression) (words : List (List ℕ)) : Type 0 where
  pub phrase : Phrase
  pub spelled : SpellsPhrase phrase words
  pub accepted : IsAccepted phrase
  pub made : e ≡ meaning phrase

-- ---- plans

-- what stands after the name of a plan word: nothing, or an equals sign and a value
abbrev pub Valued : (List ℕ → Type 0) → List ℕ → Type 0
Valued P after = (value : List ℕ) × P value × (after ≡ 61 ∷ value)

abbrev pub SpellsValue : PlanWord → List ℕ → Type 0
SpellsValue (PlanWord.Start kind) after = Valued (λ value. value ≡ start_name kind) after
SpellsValue (PlanWord.Quit set) after = Valued (SpellsSet set) after
SpellsValue (PlanWord.LineTerminator byte) after = Valued (SpellsByte byte) after
SpellsValue (PlanWord.NfaLimit bytes) after = Valued (SpellsNumber bytes) after
SpellsValue (PlanWord.DfaLimit bytes) after = Valued (SpellsNumber bytes) after
SpellsValue (PlanWord.DeterminizeLimit bytes) after = Valued (SpellsNumber bytes) after
SpellsValue _ after = after ≡ []

abbrev pub SpellsWord : PlanWord → List ℕ → Type 0
SpellsWord word text = (after : List ℕ) × SpellsValue word after × (text ≡ plan_name (name_of word) ++ after)

abbrev pub SpellsWords : List PlanWord → List (List ℕ) → Type 0
SpellsWords [] [] = Unit {0}
SpellsWords [] (text ∷ texts) = ⊥
SpellsWords (word ∷ words) [] = ⊥
SpellsWords (word ∷ words) (text ∷ texts) = SpellsWord word text × SpellsWords words texts

-- no name stands twice, and not both bytes and pair stand: no two words choose the same thing
abbrev pub AreDistinct : List PlanWord → Type 0
AreDistinct [] = Unit {0}
AreDistinct (word ∷ words) = AllByRecursion (λ other. chosen_by other ≢ chosen_by word) words × AreDistinct words

abbrev pub with_words : List PlanWord → Choices → Choices
with_words [] choices = choices
with_words (word ∷ words) choices = with_words words (with_word word choices)

pub record SpellsPlan (choices : Choices) (texts : List (List ℕ)) : Type 0 where
  pub words : List PlanWord
  pub spelled : SpellsWords words texts
  pub distinct : AreDistinct words
  pub made : choices ≡ with_words words unplanned

-- ---- scripts

-- a first word, and others after it
abbrev pub Headed : LineKind → (List (List ℕ) → Type 0) → List (List ℕ) → Type 0
Headed kind P words = (others : List (List ℕ)) × P others × (words ≡ line_name kind ∷ others)

-- no plan line, or one
abbrev pub SpellsPlanLines : Choices → List (List (List ℕ)) → Type 0
SpellsPlanLines choices [] = choices ≡ unplanned
SpellsPlanLines choices (words ∷ []) = Headed LineKind.Plan (SpellsPlan choices) words
SpellsPlanLines choices (words ∷ (more ∷ lines)) = ⊥

-- a line for each expression
abbrev pub SpellsExprs : List Expression → List (List (List ℕ)) → Type 0
SpellsExprs [] [] = Unit {0}
SpellsExprs [] (words ∷ lines) = ⊥
SpellsExprs (e ∷ es) [] = ⊥
SpellsExprs (e ∷ es) (words ∷ lines) = Headed LineKind.Expr (SpellsExpression e) words × SpellsExprs es lines

abbrev pub SpellsMode : Anchored → List ℕ → Type 0
SpellsMode Anchored.No word = word ≡ anchored_name false
SpellsMode Anchored.Yes word = word ≡ anchored_name true
SpellsMode (Anchored.Pattern k) word = (k ≤ max_id) × (word ≡ codes "p" ++ decimal k)

-- a span and a mode, and a haystack that the span fits
pub record SpellsQuery (q : Query) (input hay : List (List ℕ)) : Type 0 where
  pub start : List ℕ
  pub end : List ℕ
  pub mode : List ℕ
  pub bytes : List ℕ
  pub input_words : input ≡ line_name LineKind.Input ∷ (start ∷ (end ∷ (mode ∷ [])))
  pub hay_words : hay ≡ line_name LineKind.Hay ∷ (bytes ∷ [])
  pub start_spelled : SpellsNumber q.start start
  pub end_spelled : SpellsNumber q.end end
  pub mode_spelled : SpellsMode q.mode mode
  pub hay_spelled : SpellsBytes q.haystack bytes
  pub within : q.end ≤ length q.haystack
  pub ordered : q.start ≤ q.end + 1
  pub whole : q.earliest ≡ false

-- the lines of what is asked, where that is part of the script
abbrev pub SpellsAsked : Bool → Option Query → List (List (List ℕ)) → Type 0
SpellsAsked true (Some q) (input ∷ (hay ∷ [])) = SpellsQuery q input hay
SpellsAsked true (Some q) _ = ⊥
SpellsAsked true None lines = ⊥
SpellsAsked false None [] = Unit {0}
SpellsAsked false None (words ∷ lines) = ⊥
SpellsAsked false (Some q) lines = ⊥

-- A text spells a script, with what is asked or without it.
pub record Spells (with_input : Bool) (text : List ℕ) (script : Spelled) : Type 0 where
  pub plan_lines : List (List (List ℕ))
  pub expr_lines : List (List (List ℕ))
  pub asked_lines : List (List (List ℕ))
  pub lines : SpellsLines (plan_lines ++ (expr_lines ++ asked_lines)) text
  pub plan : SpellsPlanLines (record { plan = script.plan; rows = script.rows }) plan_lines
  pub exprs : SpellsExprs script.exprs expr_lines
  pub asked : SpellsAsked with_input script.asked asked_lines

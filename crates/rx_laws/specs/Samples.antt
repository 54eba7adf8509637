-- What the examples share: small expressions, a plain plan, questions and their answers.
use Rattle.std.specs.Prelude.{◌≡◌, ℕ, Bool, true, false, Option, Some, None, Ok, List, [], ◌∷◌, length}
use Rattle.rx_spec.specs.Bytes.{only, between}
use Rattle.rx_spec.specs.Expressions.{Expression}
use Rattle.rx_spec.specs.Queries.{Anchored, Query, Match, HalfMatch}
use Rattle.rx_spec.specs.Found.{found}
use Rattle.rx_spec.specs.Nfas.{Nfa, nfa_of, is_always_start_anchored}
use Rattle.rx_spec.specs.Contexts.{no_facts}
use Rattle.rx_spec.specs.States.{State}
use Rattle.rx_spec.specs.Builds.{Build, power, build_settings}
use Rattle.rx_spec.specs.HalfSearches.{HalfAnswer, half_search}
use Rattle.rx_spec.specs.Joining.{Answer, joined_search}
use Rattle.rx_plan.specs.Plans.{Plan, plan_build, outcome}
use Rattle.rx_spec.specs.declared.Direction.{Direction}
use Rattle.rx_spec.specs.declared.Form.{Form}
use Rattle.rx_spec.specs.declared.StartKind.{StartKind}

-- one byte, a range of bytes, and a text
abbrev pub byte : ℕ → Expression
byte b = Expression.Class (only b)

abbrev pub range : ℕ → ℕ → Expression
range first last = Expression.Class (between first last)

abbrev pub text : List ℕ → Expression
text [] = Expression.Empty
text (b ∷ []) = byte b
text (b ∷ (c ∷ bs)) = Expression.Concat (byte b) (text (c ∷ bs))

abbrev pub one_or_more : Bool → Expression → Expression
one_or_more greedy e = Expression.Repeat 1 None greedy e

-- exactly n rounds
abbrev pub times : ℕ → Expression → Expression
times n e = Expression.Repeat n (Some n) true e

-- A plain plan: all modes, no pattern starts, no quit byte, lines that \n ends, no limit.
abbrev pub plain : Plan
plain = record {
  start_kind = StartKind.Both;
  pattern_starts = false;
  byte_classes = true;
  quit = 0;
  unicode_word = false;
  line_terminator = 10;
  nfa_limit = None;
  dfa_limit = None;
  determinize_limit = None;
  minimize = false;
  accelerate = true;
  mark_starts = false;
  form = Form.Dense;
}

-- what a plain plan builds, forward and in reverse
abbrev pub forward_build : List Expression → Build
forward_build es = plan_build plain Direction.Forward es

abbrev pub reverse_build : List Expression → Build
reverse_build es = plan_build plain Direction.Reverse es

-- the NFA of a, and the machines of a
abbrev pub one_letter : Nfa
one_letter = nfa_of Direction.Forward 10 false (byte 97 ∷ [])

abbrev pub letter_forward : Build
letter_forward = forward_build (byte 97 ∷ [])

abbrev pub letter_reverse : Build
letter_reverse = reverse_build (byte 97 ∷ [])

-- a state that remembers nothing of the unit read last
abbrev pub state : List ℕ → List ℕ → State
state rows label = record { rows = rows; context = no_facts; label = label }

-- a haystack, and a span of it
abbrev pub ask : Anchored → List ℕ → ℕ → ℕ → Query
ask mode haystack start end =
    record { haystack = haystack; start = start; end = end; mode = mode; earliest = false }

abbrev pub anywhere : List ℕ → Query
anywhere haystack = ask Anchored.No haystack 0 (length haystack)

-- a match, and one side of it
abbrev pub match_of : ℕ → ℕ → ℕ → Match
match_of pattern start end = record { pattern = pattern; start = start; end = end }

abbrev pub half_of : ℕ → ℕ → HalfMatch
half_of pattern offset = record { pattern = pattern; offset = offset }

-- the half searches over a build's powerset machine
abbrev pub search : Build → Direction → Query → HalfAnswer
search b direction q = half_search (power b) (build_settings b) direction q

-- both, joined
abbrev pub search_both : List Expression → Query → Answer
search_both es q =
    joined_search (search (forward_build es) Direction.Forward) (search (reverse_build es) Direction.Reverse)
    (is_always_start_anchored (forward_build es).nfa) q

-- what is found, that a plain plan answers it, and that its searches from both sides answer the same
abbrev pub answers : List Expression → Query → Option Match → Type 0
answers es q answer =
    (found es 10 q ≡ answer) × (outcome plain es q ≡ Ok answer) × (search_both es q ≡ Ok answer)

-- the same without an anchor and with one
abbrev pub answers_both : List Expression → List ℕ → ℕ → ℕ → Option Match → Type 0
answers_both es haystack start end answer =
    answers es (ask Anchored.No haystack start end) answer × answers es (ask Anchored.Yes haystack start end) answer

-- Half searches over powerset machines: refusals, bytes that quit, both directions.
use Rattle.std.specs.Prelude.{◌≡◌, ℕ, Bool, true, false, Some, None, Ok, Err, List, [], ◌∷◌, ◌++◌, codes}
use Rattle.rx_spec.specs.Bytes.{only}
use Rattle.rx_spec.specs.Expressions.{Expression}
use Rattle.rx_spec.specs.Queries.{Anchored, Query, IsFit, MatchError}
use Rattle.rx_spec.specs.Nfas.{Nfa, always_match, never_match}
use Rattle.rx_spec.specs.Builds.{Build}
use Rattle.rx_spec.specs.HalfSearches.{HalfAnswer}
use Rattle.rx_plan.specs.Plans.{Plan, plan_build, outcome}
use Rattle.rx_laws.specs.Samples.{byte, range, one_or_more, plain, reverse_build}
use Rattle.rx_laws.specs.Samples.{ask, anywhere, half_of, search}
use Rattle.rx_laws.specs.FoundExamples.{samwise_first}
use Rattle.rx_laws.specs.ClassExamples.{number}
use Rattle.rx_spec.specs.declared.Direction.{Direction}
use Rattle.rx_spec.specs.declared.MatchKind.{MatchKind}
use Rattle.rx_spec.specs.declared.StartKind.{StartKind}

-- a span may begin one past its end, and no further
abbrev pub FitSpan : Type 0
FitSpan = IsFit (ask Anchored.No [] 1 0)

abbrev pub UnfitSpan : Type 0
UnfitSpan = IsFit (ask Anchored.No [] 2 0) → ⊥

-- A search that is done is answered before its mode is refused; another is refused.
abbrev pub unanchored_only : Build
unanchored_only = plan_build (record plain { start_kind = StartKind.Unanchored }) Direction.Forward (byte 97 ∷ [])

abbrev pub DoneBeforeRefused : Type 0
DoneBeforeRefused = search unanchored_only Direction.Forward (ask Anchored.Yes (codes "a") 1 0) ≡ Ok None

abbrev pub ModeRefused : Type 0
ModeRefused =
    search unanchored_only Direction.Forward (ask Anchored.Yes (codes "a") 0 1)
    ≡ Err (MatchError.UnsupportedAnchored Anchored.Yes)

-- a pattern past the last has no match, and no pattern has starts of its own where none were built
abbrev pub two_letters : Bool → Build
two_letters pattern_starts =
    plan_build (record plain { pattern_starts = pattern_starts }) Direction.Forward (byte 97 ∷ byte 98 ∷ [])

abbrev pub of_pattern : Bool → ℕ → List ℕ → HalfAnswer
of_pattern pattern_starts k haystack =
    search (two_letters pattern_starts) Direction.Forward (ask (Anchored.Pattern k) haystack 0 1)

abbrev pub PatternPastLast : Type 0
PatternPastLast = of_pattern true 5 (codes "a") ≡ Ok None

abbrev pub PatternAlone : Type 0
PatternAlone = of_pattern true 1 (codes "b") ≡ Ok (Some (half_of 1 1))

abbrev pub PatternRefused : Type 0
PatternRefused = of_pattern false 5 (codes "a") ≡ Err (MatchError.UnsupportedAnchored (Anchored.Pattern 5))

-- \b[0-9]+\b with Unicode words: a search quits at a byte that is no ASCII, be it the neighbour of its
-- span or read by it, from either side.
abbrev pub unicode_words : Plan
unicode_words = record plain { unicode_word = true }

abbrev pub beta_before : Query
beta_before = ask Anchored.No (206 ∷ 178 ∷ codes "123") 2 5

abbrev pub beta_after : Query
beta_after = ask Anchored.No (codes "123" ++ (206 ∷ 178 ∷ [])) 0 3

abbrev pub QuitBefore : Type 0
QuitBefore = outcome unicode_words (number ∷ []) beta_before ≡ Err (MatchError.Quit 178 1)

abbrev pub QuitAfter : Type 0
QuitAfter = outcome unicode_words (number ∷ []) beta_after ≡ Err (MatchError.Quit 206 3)

abbrev pub number_in_reverse : Query → HalfAnswer
number_in_reverse q =
    search (plan_build unicode_words Direction.Reverse (number ∷ [])) Direction.Reverse
    (record q { mode = Anchored.Yes })

abbrev pub QuitBeforeInReverse : Type 0
QuitBeforeInReverse = number_in_reverse beta_before ≡ Err (MatchError.Quit 178 1)

abbrev pub QuitAfterInReverse : Type 0
QuitAfterInReverse = number_in_reverse beta_after ≡ Err (MatchError.Quit 206 3)

-- a byte that quits ends the search also after a match, and not past one that is cut off
abbrev pub quits_at : ℕ → Plan
quits_at b = record plain { quit = only b }

abbrev pub QuitNotReached : Type 0
QuitNotReached = outcome (quits_at 122) (byte 97 ∷ []) (ask Anchored.Yes (codes "bz") 0 2) ≡ Ok None

abbrev pub QuitAfterMatch : Type 0
QuitAfterMatch =
    outcome (quits_at 122) (byte 97 ∷ []) (ask Anchored.Yes (codes "az") 0 2) ≡ Err (MatchError.Quit 122 1)

-- and also where it stands before the span, of which nothing is read
abbrev pub QuitBeforeSpan : Type 0
QuitBeforeSpan =
    outcome (quits_at 98) (byte 97 ∷ []) (ask Anchored.No (codes "ba") 1 2) ≡ Err (MatchError.Quit 98 0)

-- The search in reverse from an end: [0-9]+ from the end of x123, and Samwise|Sam from the end of Sam.
abbrev pub back : Expression → List ℕ → ℕ → HalfAnswer
back e haystack end = search (reverse_build (e ∷ [])) Direction.Reverse (ask Anchored.Yes haystack 0 end)

abbrev pub NumberInReverse : Type 0
NumberInReverse = back (one_or_more true (range 48 57)) (codes "x123") 4 ≡ Ok (Some (half_of 0 1))

abbrev pub SamInReverse : Type 0
SamInReverse = back samwise_first (codes "Samwise") 3 ≡ Ok (Some (half_of 0 0))

abbrev pub NothingInReverse : Type 0
NothingInReverse = back samwise_first (codes "Samwise") 5 ≡ Ok None

-- the first match met: a+ from the end of aaa in reverse
abbrev pub EarliestInReverse : Type 0
EarliestInReverse =
    search (reverse_build (one_or_more true (byte 97) ∷ [])) Direction.Reverse
    (record (ask Anchored.Yes (codes "aaa") 0 3) { earliest = true })
    ≡ Ok (Some (half_of 0 2))

-- The NFAs of the pattern that matches everywhere and of no pattern.
abbrev pub build_of : Nfa → Build
build_of nfa =
    record {
      nfa = nfa;
      kind = MatchKind.LeftmostFirst;
      start_kind = StartKind.Both;
      pattern_starts = false;
      quit = 0;
    }

abbrev pub in_foo : Nfa → HalfAnswer
in_foo nfa = search (build_of nfa) Direction.Forward (anywhere (codes "foo12345"))

abbrev pub MatchEverywhere : Type 0
MatchEverywhere = in_foo always_match ≡ Ok (Some (half_of 0 0))

abbrev pub MatchNowhere : Type 0
MatchNowhere = in_foo never_match ≡ Ok None

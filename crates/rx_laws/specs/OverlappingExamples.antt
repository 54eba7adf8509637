-- Overlapping searches over powerset machines: every match is told, in the order of the walk, and how it ended.
use Rattle.std.specs.Prelude.{◌≡◌, ◌≢◌, ℕ, List, [], ◌∷◌, codes}
use Rattle.rx_spec.specs.Expressions.{Expression}
use Rattle.rx_spec.specs.Queries.{Anchored, Query, MatchError}
use Rattle.rx_spec.specs.Builds.{Build, power, build_settings}
use Rattle.rx_spec.specs.Overlapping.{Item, Ending, OverlappingMatches, none_left, overlapping}
use Rattle.rx_plan.specs.Plans.{plan_build}
use Rattle.rx_laws.specs.Samples.{byte, text, forward_build, ask, anywhere, half_of}
use Rattle.rx_laws.specs.FoundExamples.{samwise_first}
use Rattle.rx_laws.specs.SearchExamples.{quits_at}
use Rattle.rx_spec.specs.declared.Direction.{Direction}
use Rattle.rx_spec.specs.declared.MatchKind.{MatchKind}

-- Samwise|Sam: both
abbrev pub all_matches : List Expression → Build
all_matches es = record (forward_build es) { kind = MatchKind.All }

abbrev pub overlapping_in : Build → Query → OverlappingMatches
overlapping_in b q = overlapping (power b) (build_settings b) Direction.Forward q

abbrev pub reported : ℕ → ℕ → Item
reported pattern offset = Item.Reported (half_of pattern offset)

abbrev pub BothReported : Type 0
BothReported =
    overlapping_in (all_matches (samwise_first ∷ [])) (anywhere (codes "Samwise"))
    ≡ record { items = reported 0 3 ∷ reported 0 7 ∷ []; ending = Ending.Ended }

-- ab and b on ab: two patterns at one offset
abbrev pub ReportedTogether : Type 0
ReportedTogether =
    overlapping_in (all_matches (text (codes "ab") ∷ byte 98 ∷ [])) (anywhere (codes "ab"))
    ≡ record { items = reported 0 2 ∷ reported 1 2 ∷ []; ending = Ending.Ended }

-- A start that is refused and a walk that quits are told apart: z quits before the span of za that begins after
-- it, and where it is read itself.
abbrev pub quitting : Query → OverlappingMatches
quitting q = overlapping_in (plan_build (quits_at 122) Direction.Forward (byte 97 ∷ [])) q

abbrev pub RefusedOrQuits : Type 0
RefusedOrQuits =
    (quitting (ask Anchored.No (codes "za") 1 2) ≡ none_left (Ending.Refused (MatchError.Quit 122 0)))
    × (quitting (ask Anchored.No (codes "z") 0 1) ≡ none_left (Ending.Quits 122 0))

abbrev pub RefusedIsNoQuit : Type 0
RefusedIsNoQuit = quitting (ask Anchored.No (codes "za") 1 2) ≢ quitting (ask Anchored.No (codes "z") 0 1)

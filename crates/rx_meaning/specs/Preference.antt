-- What a forward search is to tell.
use Rattle.std.specs.Prelude.{◌≡◌, ◌≤◌, false, Option, Ok, List, length, All}
use Rattle.std.specs.Option.{option_map}
use Rattle.rx_spec.specs.Bytes.{AreBytes}
use Rattle.rx_spec.specs.Expressions.{Expression, IsLoopSafe}
use Rattle.rx_spec.specs.Queries.{Query, Match, HalfMatch}
use Rattle.rx_spec.specs.Found.{found}
use Rattle.rx_spec.specs.Builds.{Build, power, build_settings}
use Rattle.rx_spec.specs.HalfSearches.{HalfAnswer, half_search}
use Rattle.rx_plan.specs.Plans.{Plan, plan_build}
use Rattle.rx_spec.specs.declared.Direction.{Direction}

-- the half searches of a build's powerset machine
abbrev pub build_half_search : Build → Direction → Query → HalfAnswer
build_half_search b direction q = half_search (power b) (build_settings b) direction q

-- a match's pattern and end
abbrev pub end_of : Match → HalfMatch
end_of found = record { pattern = found.pattern; offset = found.end }

-- Preference: where the forward half search for the last match is neither refused nor meets a quit byte, it
-- tells the pattern and the end of what is found, and none exactly where nothing is.
abbrev pub Preference : Type 0
Preference = (p : Plan) (es : List Expression) (q : Query)
    → All IsLoopSafe es → AreBytes q.haystack → q.end ≤ length q.haystack → (told : Option HalfMatch)
    → build_half_search (plan_build p Direction.Forward es) Direction.Forward (record q { earliest = false }) ≡ Ok told
    → told ≡ option_map end_of (found es p.line_terminator q)

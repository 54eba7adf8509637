-- What the command `each` replies to the bytes of a script: the matches one after another.
use Rattle.std.specs.Prelude.{ℕ, ◌≡◌, true, Option, Some, None, List, [], ◌∷◌}
use Rattle.std.specs.List.{flat_map}
use Rattle.rx_spec.specs.Iterating.{FoundMatches, iterate}
use Rattle.rx_plan.specs.Plans.{outcome}
use Rattle.rx_spec.specs.Queries.{Query, Match, MatchError}
use Rattle.rx_plan.specs.Plan.{plan_of}
use Rattle.rx_script.specs.Grammar.{Spelled}
use Rattle.rx_main.specs.Lines.{Reply, match_line, none_line, error_reply}
use Rattle.rx_main.specs.Scripts.{AskedReplies, ScriptReplies}

-- A line for each match. Where an error ends them, its line comes last; where there are neither, that is said.
abbrev pub matches_reply : List Match → Option MatchError → Reply
matches_reply matches (Some error) = error_reply (flat_map match_line matches) error
matches_reply [] None = record { text = none_line; status = 1 }
matches_reply (m ∷ ms) None = record { text = flat_map match_line (m ∷ ms); status = 0 }

abbrev pub each_reply : FoundMatches → Reply
each_reply found = matches_reply found.matches found.error

-- the matches of the plan, of which the next begins where the last one ended or later
abbrev pub EachAnswers : Spelled → Query → Reply → Type 0
EachAnswers script q reply = reply ≡ each_reply (iterate (outcome (plan_of script.plan) script.exprs) q)

abbrev pub EachReplies : List ℕ → Reply → Type 0
EachReplies text reply = ScriptReplies true (AskedReplies EachAnswers) text reply

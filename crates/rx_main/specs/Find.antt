-- What the command `find` replies to the bytes of a script: the leftmost match.
use Rattle.std.specs.Prelude.{ℕ, ◌≡◌, Bool, true, false, Option, Some, None, Ok, Err, List, [], ◌++◌}
use Rattle.rx_plan.specs.Plans.{outcome}
use Rattle.rx_spec.specs.Queries.{Query, Match, MatchError}
use Rattle.rx_plan.specs.Plan.{plan_of}
use Rattle.rx_regex.specs.Rows.{HaveRows}
use Rattle.rx_script.specs.Grammar.{Spelled}
use Rattle.rx_main.specs.Lines.{Reply, match_line, none_line, rows_line, error_reply}
use Rattle.rx_main.specs.Scripts.{AskedReplies, ScriptReplies}

abbrev pub found_line : Option Match → List ℕ
found_line None = none_line
found_line (Some m) = match_line m

abbrev pub found_status : Option Match → ℕ
found_status None = 1
found_status (Some m) = 0

-- its line, with others after it
abbrev pub found_reply : Option Match → List ℕ → Reply
found_reply found more = record { text = found_line found ++ more; status = found_status found }

-- the line of the row counts, where they are asked for
abbrev pub rows_text : Bool → ℕ → ℕ → List ℕ
rows_text false forward reverse = []
rows_text true forward reverse = rows_line forward reverse

-- The outcome of the search: what is found, by tables that have so many rows, or an error.
pub data FindAnswers (script : Spelled) (q : Query) (reply : Reply) : Type 0 where
  Finds : (found : Option Match) → (forward : ℕ) → (reverse : ℕ)
      → outcome (plan_of script.plan) script.exprs q ≡ Ok found
      → HaveRows (plan_of script.plan) script.exprs forward reverse
      → reply ≡ found_reply found (rows_text script.rows forward reverse) → FindAnswers script q reply
  Fails : (error : MatchError) → outcome (plan_of script.plan) script.exprs q ≡ Err error → reply ≡ error_reply [] error
      → FindAnswers script q reply

abbrev pub FindReplies : List ℕ → Reply → Type 0
FindReplies text reply = ScriptReplies true (AskedReplies FindAnswers) text reply

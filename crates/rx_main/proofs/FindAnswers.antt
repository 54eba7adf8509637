-- From what a search for a match answers to the reply of `find`.
use Rattle.rx_spec.proofs.Prelude.{◌≡◌, [], MatchError, Query}
use Rattle.rx_plan.specs.Plan.{plan_of}
use Rattle.rx_regex.specs.Find.{EndsBy, IsFound}
use Rattle.rx_regex.specs.declared.find.Answer.{Answer}
use Rattle.rx_script.specs.Grammar.{Spelled}
use Rattle.rx_main.specs.Lines.{Reply, error_reply}
use Rattle.rx_main.specs.Scripts.{BuildReplies, PlanReplies}
use Rattle.rx_main.specs.Find.{FindAnswers, found_reply, rows_text}

module _ (script : Spelled) (q : Query) (reply : Reply) where
  pub found_answers : (answer : Answer) → IsFound (plan_of script.plan) script.exprs q answer
      → reply ≡ found_reply answer.found (rows_text script.rows answer.forward_rows answer.reverse_rows)
      → PlanReplies (plan_of script.plan) script.exprs (FindAnswers script q) reply
  found_answers answer is e =
      BuildReplies.Answered is.fits
      (FindAnswers.Finds answer.found answer.forward_rows answer.reverse_rows is.found is.rows e)

  pub failed_answers : (error : MatchError) → EndsBy (plan_of script.plan) script.exprs q error
      → reply ≡ error_reply [] error → PlanReplies (plan_of script.plan) script.exprs (FindAnswers script q) reply
  failed_answers error is e = BuildReplies.Answered is.fits (FindAnswers.Fails error is.ends e)

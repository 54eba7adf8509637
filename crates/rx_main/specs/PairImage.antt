-- What the command `image pair` replies to the bytes of a script: one image of both tables of its plan.
use Rattle.std.specs.Prelude.{ℕ, ◌≡◌, false, List}
use Rattle.rx_spec.specs.Expressions.{Expression}
use Rattle.rx_plan.specs.Plans.{Plan}
use Rattle.rx_plan.specs.Plan.{plan_of}
use Rattle.rx_regex.specs.Images.{IsPairImage}
use Rattle.rx_script.specs.Grammar.{Spelled}
use Rattle.rx_wire.specs.declared.order.Order.{Order}
use Rattle.rx_main.specs.Lines.{Reply}
use Rattle.rx_main.specs.Scripts.{PlanReplies, ScriptReplies}

-- an image of the tables of a plan
pub record IsPairImageReply (p : Plan) (es : List Expression) (order : Order) (reply : Reply) : Type 0 where
  pub image : IsPairImage p es order reply.text
  pub status : reply.status ≡ 0

-- Both are built, the forward one first, and the causes of both are told.
abbrev pub PairImageAnswers : Order → Spelled → Reply → Type 0
PairImageAnswers order script reply =
    let p = plan_of script.plan in
    PlanReplies p script.exprs (IsPairImageReply p script.exprs order) reply

-- a script for it asks nothing
abbrev pub PairImageReplies : Order → List ℕ → Reply → Type 0
PairImageReplies order text reply = ScriptReplies false (PairImageAnswers order) text reply

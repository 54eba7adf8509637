-- What the command `image` replies to the bytes of a script: an image of a table of its plan.
use Rattle.std.specs.Prelude.{ℕ, ◌≡◌, false, List}
use Rattle.rx_spec.specs.Expressions.{Expression}
use Rattle.rx_plan.specs.Plans.{Plan}
use Rattle.rx_plan.specs.Plan.{plan_of}
use Rattle.rx_regex.specs.Images.{IsImage}
use Rattle.rx_regex.specs.PlanTables.{TableFits, TableRefused}
use Rattle.rx_regex.specs.declared.plan_table.PlanTable.{PlanTable}
use Rattle.rx_script.specs.Grammar.{Spelled}
use Rattle.rx_wire.specs.declared.order.Order.{Order}
use Rattle.rx_main.specs.Lines.{Reply}
use Rattle.rx_main.specs.Scripts.{BuildReplies, ScriptReplies}

-- an image of a table of a plan
pub record IsImageReply (p : Plan) (table : PlanTable) (es : List Expression) (order : Order) (reply : Reply)
    : Type 0 where
  pub image : IsImage p table es order reply.text
  pub status : reply.status ≡ 0

-- That table alone is built, so only its causes are told.
abbrev pub ImageAnswers : PlanTable → Order → Spelled → Reply → Type 0
ImageAnswers table order script reply =
    let p = plan_of script.plan in
    BuildReplies (TableRefused p table script.exprs) (TableFits p table script.exprs)
    (IsImageReply p table script.exprs order) reply

-- a script for it asks nothing
abbrev pub ImageReplies : PlanTable → Order → List ℕ → Reply → Type 0
ImageReplies table order text reply = ScriptReplies false (ImageAnswers table order) text reply

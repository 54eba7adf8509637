-- What all commands that read a script reply to one with a fault.
use Rattle.std.specs.Prelude.{ℕ, ◌≡◌, Bool, Option, Some, None, List}
use Rattle.rx_spec.specs.Expressions.{Expression}
use Rattle.rx_spec.specs.Causes.{Cause}
use Rattle.rx_plan.specs.Plans as plans
use Rattle.rx_spec.specs.Queries.{Query, IsFit}
use Rattle.rx_plan.specs.Plan.{plan_of}
use Rattle.rx_regex.specs.Find.{PlanFits, PlanRefused}
use Rattle.rx_script.specs.Faults.{refused}
use Rattle.rx_script.specs.Grammar.{Spelled, Spells}
use Rattle.rx_script.specs.Reading.{script_of}
use Rattle.rx_script.specs.Script.{script_read}
use Rattle.rx_script.specs.declared.fault.BadKind.{BadKind}
use Rattle.rx_main.specs.Lines.{Reply, fault_reply, IsRefusal}
use Rattle.rx_main.specs.declared.scripts.Reading.{Reading}

-- ---- the definition

-- the text spells a script, with what is asked or without it, and this is true of the script
pub record IsScript (with_input : Bool) (text : List ℕ) (P : Spelled → Type 0) : Type 0 where
  pub script : Spelled
  pub spelled : Spells with_input text script
  pub holds : P script

-- the reply to a text that spells no script: its first fault is told
pub record IsTurnedDown (with_input : Bool) (text : List ℕ) (reply : Reply) : Type 0 where
  pub line : ℕ
  pub kind : BadKind
  pub fault : script_of with_input text ≡ refused line kind
  pub told : reply ≡ fault_reply line kind

-- the reply of a command that answers a script so
pub data ScriptReplies (with_input : Bool) (Answers : Spelled → Reply → Type 0) (text : List ℕ) (reply : Reply)
    : Type 0 where
  TurnedDown : IsTurnedDown with_input text reply → ScriptReplies with_input Answers text reply
  Answered : IsScript with_input text (λ script. Answers script reply) → ScriptReplies with_input Answers text reply

-- The reply where something is built: why that is refused, or else an answer by what is built.
pub data BuildReplies (Refused : Cause → Type 0) (Fits : Type 0) (Answers : Reply → Type 0) (reply : Reply)
    : Type 0 where
  Refused : IsRefusal Refused reply → BuildReplies Refused Fits Answers reply
  Answered : Fits → Answers reply → BuildReplies Refused Fits Answers reply

-- both tables of a plan and expressions
abbrev pub PlanReplies : plans.Plan → List Expression → (Reply → Type 0) → Reply → Type 0
PlanReplies p es Answers reply = BuildReplies (PlanRefused p es) (PlanFits p es) Answers reply

-- A script asks something, and its tables answer that.
pub record AskedReplies (Answers : Spelled → Query → Reply → Type 0) (script : Spelled) (reply : Reply) : Type 0 where
  pub query : Query
  pub asked : script.asked ≡ Some query
  pub replies : PlanReplies (plan_of script.plan) script.exprs (Answers script query) reply

-- ---- what the code keeps of a script

-- something is asked, and its span lies in the haystack
abbrev pub IsAsking : Option Query → Type 0
IsAsking None = ⊥
IsAsking (Some q) = IsFit q

-- the text spells it, or no script
abbrev pub IsRead : Bool → List ℕ → Reading → Type 0
IsRead with_input text (Reading.Script script) = Spells with_input text (script_read script)
IsRead with_input text (Reading.TurnedDown reply) = IsTurnedDown with_input text reply

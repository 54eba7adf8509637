-- What the program replies to a command line and the bytes that were read.
use Rattle.std.specs.Prelude.{ℕ, ◌≡◌, ◌+◌, ◌≤◌, ◌⊎◌, Bool, true, false, List, [], length}
use Rattle.rx_spec.specs.Expressions.{Expression}
use Rattle.rx_spec.specs.Causes.{BuildCause, HasTooLongRows}
use Rattle.rx_plan.specs.Plans.{Plan, plan_limits}
use Rattle.rx_spec.specs.Causes.{Cause}
use Rattle.rx_wire.specs.declared.order.Order.{Order}
use Rattle.rx_plan.specs.Plan.{plan_of, usual}
use Rattle.rx_regex.specs.PlanTables.{IsOfPair, table_build}
use Rattle.rx_regex.specs.declared.plan_table.PlanTable.{PlanTable}
use Rattle.rx_script.specs.Grammar.{Spelled, Spells}
use Rattle.rx_base.specs.Search.{mode_of}
use Rattle.rx_feed.specs.Replies.{FeedReplies}
use Rattle.rx_main.specs.Commands.{Says, SaysNothing, most_bytes}
use Rattle.rx_main.specs.Lines.{Reply, usage_reply, long_reply, refusal_reply, IsRefusal}
use Rattle.rx_main.specs.Find.{FindReplies}
use Rattle.rx_main.specs.Each.{EachReplies}
use Rattle.rx_main.specs.Image.{ImageReplies, IsImageReply}
use Rattle.rx_main.specs.PairImage.{PairImageReplies, IsPairImageReply}
use Rattle.rx_main.specs.Check.{CheckPairReplies, CheckReplies}
use Rattle.rx_main.specs.Search.{SearchReplies}
use Rattle.rx_main.specs.Scan.{ScanReplies}
use Rattle.rx_main.specs.Equal.{EqualReplies, TellsParting}
use Rattle.rx_main.specs.Gen.{GenReplies, gen_patterns}
use Rattle.rx_main.specs.declared.command.Command.{Command}
use Rattle.rx_main.specs.declared.command.Equal.{Equal}
use Rattle.rx_main.specs.declared.command.ReadCommand.{ReadCommand}

-- all bytes were read, and there are no more than that
pub record AreRead (bytes : List ℕ) (ended : Bool) : Type 0 where
  pub whole : ended ≡ true
  pub few : length bytes ≤ most_bytes

-- what a command replies to what it read, each by its own definition
abbrev pub ReadReplies : ReadCommand → List ℕ → Reply → Type 0
ReadReplies ReadCommand.Find bytes reply = FindReplies bytes reply
ReadReplies ReadCommand.Each bytes reply = EachReplies bytes reply
ReadReplies (ReadCommand.Image table order) bytes reply = ImageReplies table order bytes reply
ReadReplies (ReadCommand.ImagePair order) bytes reply = PairImageReplies order bytes reply
ReadReplies (ReadCommand.Check form) bytes reply = CheckReplies form bytes reply
ReadReplies ReadCommand.CheckPair bytes reply = CheckPairReplies bytes reply
ReadReplies (ReadCommand.Search s) bytes reply = SearchReplies s bytes reply
ReadReplies (ReadCommand.Scan form) bytes reply = ScanReplies form bytes reply
ReadReplies (ReadCommand.Equal e) bytes reply = EqualReplies e bytes reply

abbrev pub CommandReplies : Command → List ℕ → Bool → Reply → Type 0
CommandReplies (Command.Read command) bytes ended reply = AreRead bytes ended × ReadReplies command bytes reply
CommandReplies (Command.Gen count) bytes ended reply = (bytes ≡ []) × GenReplies count reply
CommandReplies (Command.Feed f) bytes ended reply =
    FeedReplies f.form (mode_of f.mode) f.image_len bytes ended reply.text reply.status

-- The reply to a command line and the bytes that were taken from the source. Where the bytes are the whole of the
-- source, ended is true. Where there are more bytes than are read, one more was taken.
pub data Replies (words : List (List ℕ)) (bytes : List ℕ) (ended : Bool) (reply : Reply) : Type 0 where
  Usage : SaysNothing words → bytes ≡ [] → reply ≡ usage_reply → Replies words bytes ended reply
  Long : (command : ReadCommand) → Says words (Command.Read command) → length bytes ≡ most_bytes + 1
      → reply ≡ long_reply → Replies words bytes ended reply
  Answered : (command : Command) → Says words command → CommandReplies command bytes ended reply
      → Replies words bytes ended reply

-- A table that the words and the bytes ask for: of the plan and the expressions of their script, or of those of `gen`.
pub data AsksFor (words : List (List ℕ)) (bytes : List ℕ) (p : Plan) (es : List Expression) (table : PlanTable)
    : Type 0 where
  Search : IsOfPair table → (script : Spelled)
      → Says words (Command.Read ReadCommand.Find) ⊎ Says words (Command.Read ReadCommand.Each)
      → Spells true bytes script → p ≡ plan_of script.plan → es ≡ script.exprs → AsksFor words bytes p es table
  Image : (order : Order) → (script : Spelled) → Says words (Command.Read (ReadCommand.Image table order))
      → Spells false bytes script → p ≡ plan_of script.plan → es ≡ script.exprs → AsksFor words bytes p es table
  ImagePair : IsOfPair table → (order : Order) → (script : Spelled)
      → Says words (Command.Read (ReadCommand.ImagePair order))
      → Spells false bytes script → p ≡ plan_of script.plan → es ≡ script.exprs → AsksFor words bytes p es table
  Generated : IsOfPair table → (count : ℕ) → Says words (Command.Gen count) → p ≡ plan_of usual
      → es ≡ gen_patterns count → AsksFor words bytes p es table

-- Sparse tables with the fewest rows are refused, since a bound passes of the length of their rows. They may be built
-- all the same.
pub record IsBounded (p : Plan) (es : List Expression) (table : PlanTable) (reply : Reply) : Type 0 where
  pub minimize : p.minimize ≡ true
  pub long : HasTooLongRows (plan_limits p) (table_build p table es)
  pub told : reply ≡ refusal_reply (Cause.DFA BuildCause.TooManyStates)

-- Two replies to the words and the bytes are the same, or each says that a build is refused: where several causes hold,
-- any of them may be told. Or one says that the sparse tables that are asked for are refused by a bound. Or each is an
-- image of the table that is asked for, or of both: rows of one kind may lie in any order. Or each tells a place and a
-- word that part the tables of the images: any such may be told.
pub data SayTheSame (words : List (List ℕ)) (bytes : List ℕ) (reply other : Reply) : Type 0 where
  Same : reply ≡ other → SayTheSame words bytes reply other
  Refusals : IsRefusal (λ (cause : Cause). Unit {0}) reply → IsRefusal (λ (cause : Cause). Unit {0}) other
      → SayTheSame words bytes reply other
  Bounded : (p : Plan) → (es : List Expression) → (table : PlanTable) → AsksFor words bytes p es table
      → IsBounded p es table reply ⊎ IsBounded p es table other → SayTheSame words bytes reply other
  Images : (table : PlanTable) → (order : Order) → (script : Spelled)
      → Says words (Command.Read (ReadCommand.Image table order)) → Spells false bytes script
      → IsImageReply (plan_of script.plan) table script.exprs order reply
      → IsImageReply (plan_of script.plan) table script.exprs order other → SayTheSame words bytes reply other
  PairImages : (order : Order) → (script : Spelled)
      → Says words (Command.Read (ReadCommand.ImagePair order)) → Spells false bytes script
      → IsPairImageReply (plan_of script.plan) script.exprs order reply
      → IsPairImageReply (plan_of script.plan) script.exprs order other → SayTheSame words bytes reply other
  Partings : (e : Equal) → Says words (Command.Read (ReadCommand.Equal e)) → TellsParting e bytes reply
      → TellsParting e bytes other → SayTheSame words bytes reply other

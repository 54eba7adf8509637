-- At most one reply fits a command line and the bytes that were taken, but that a refused build names any cause, that
-- sparse tables may be refused by a bound, that an image is any of a table of the plan, and that any place and word
-- that part two tables may be told.
use Rattle.rx_spec.proofs.Prelude.{common_steps, ◌≡◌, ◌⊎◌, inl, inr, ℕ, ◌+◌, Bool, true, false, List, [], length}
use Rattle.rx_spec.proofs.Prelude.{Option, Result, Ok, Err, refl, sym, ap, ◌∙◌, arith, subst, Expression, Cause}
use Rattle.rx_plan.specs.Plans.{Plan}
use Rattle.rx_spec.proofs.Prelude.{Query, Match, MatchError}
use Rattle.rx_plan.specs.Plan.{plan_of}
use Rattle.rx_regex.specs.Find.{PlanFits, PlanRefused}
use Rattle.rx_regex.specs.PlanTables.{IsOfPair, TableFits, TableRefused}
use Rattle.rx_regex.specs.declared.plan_table.PlanTable.{PlanTable}
use Rattle.rx_script.specs.Faults.{Fault}
use Rattle.rx_script.specs.Grammar.{Spelled, Spells}
use Rattle.rx_script.specs.Reading.{script_of}
use Rattle.rx_script.proofs.ScriptRead.{script_read}
use Rattle.rx_wire.specs.declared.order.Order.{Order}
use Rattle.rx_main.specs.Commands.{Says, most_bytes}
use Rattle.rx_main.specs.Lines.{Reply, IsRefusal, fault_reply, error_reply}
use Rattle.rx_main.specs.Scripts.{AskedReplies, BuildReplies, PlanReplies, ScriptReplies}
use Rattle.rx_main.specs.Find.{FindAnswers, found_reply, rows_text}
use Rattle.rx_main.specs.Each.{EachAnswers}
use Rattle.rx_main.specs.Equal.{EqualReplies, TellsParting}
use Rattle.rx_main.specs.Image.{ImageAnswers, IsImageReply}
use Rattle.rx_main.specs.PairImage.{PairImageAnswers, IsPairImageReply}
use Rattle.rx_main.specs.Replies.{AsksFor, CommandReplies, IsBounded, ReadReplies, Replies, SayTheSame}
use Rattle.rx_main.specs.declared.command.Command.{Command}
use Rattle.rx_main.specs.declared.command.Equal.{Equal}
use Rattle.rx_main.specs.declared.command.ReadCommand.{ReadCommand}
use Rattle.rx_base.specs.Search.{mode_of}
use Rattle.rx_feed.proofs.OneAnswer.{feed_once}
use Rattle.rx_main.proofs.CommandWords.{spelled_once}
use Rattle.rx_main.proofs.EqualReplies.{images_once}
use Rattle.rx_main.proofs.Refusals.{plan_bounded, table_bounded}
use Rattle.rx_main.proofs.RowCounts.{rows_once}

-- any two answers are one, or say the same
abbrev IsOne : (Reply → Type 0) → Type 0
IsOne Answers = (reply other : Reply) → Answers reply → Answers other → reply ≡ other

any_cause : (Refused : Cause → Type 0) (reply : Reply) → IsRefusal Refused reply
    → IsRefusal (λ (cause : Cause). Unit {0}) reply
any_cause Refused reply h = record { cause = h.cause; refused = tt; told = h.told }

-- ---- what is found

found_failed : (found : Option Match) (error : MatchError) (answer : Result (Option Match) MatchError)
    → answer ≡ Ok found → answer ≡ Err error → ⊥
found_failed found error answer e f = cc

find_once : (script : Spelled) (q : Query) → IsOne (FindAnswers script q)
find_once script q reply other
    (FindAnswers.Finds found forward reverse e rows h)
    (FindAnswers.Finds also also_forward also_reverse f also_rows k) =
    let counts = rows_once forward reverse also_forward also_reverse rows also_rows in
    h
    ∙ ap (λ (m : Option Match). found_reply m (rows_text script.rows forward reverse)) (cc (e, f))
    ∙ ap (λ n. found_reply also (rows_text script.rows n reverse)) counts.0
    ∙ ap (λ n. found_reply also (rows_text script.rows also_forward n)) counts.1 ∙ sym k
find_once script q reply other (FindAnswers.Finds found forward reverse e rows h) (FindAnswers.Fails error f k) =
    absurd (found_failed found error _ e f)
find_once script q reply other (FindAnswers.Fails error e h) (FindAnswers.Finds found forward reverse f rows k) =
    absurd (found_failed found error _ f e)
find_once script q reply other (FindAnswers.Fails error e h) (FindAnswers.Fails also f k) =
    h ∙ ap (error_reply []) (cc (h, f)) ∙ sym k

each_once : (script : Spelled) (q : Query) → IsOne (EachAnswers script q)
each_once script q reply other h k = h ∙ sym k

-- ---- what was read

-- the reply to what was read
abbrev Told : (Spelled → Reply → Type 0) → Result Spelled Fault → Reply → Type 0
Told Answers (Err fault) reply = reply ≡ fault_reply fault.line fault.kind
Told Answers (Ok script) reply = Answers script reply

module _ (with_input : Bool) (Answers : Spelled → Reply → Type 0) (text : List ℕ) where
  told : (reply : Reply) → ScriptReplies with_input Answers text reply
      → Told Answers (script_of with_input text) reply
  told reply (ScriptReplies.TurnedDown is) = grind (arith, common_steps)
  told reply (ScriptReplies.Answered is) =
      subst (λ (read : Result Spelled Fault). Told Answers read reply)
      (sym (script_read with_input text is.script is.spelled)) is.holds

  -- the answer to the script that the text spells
  told_of : (script : Spelled) → Spells with_input text script → (reply : Reply)
      → ScriptReplies with_input Answers text reply → Answers script reply
  told_of script spelled reply h =
      subst (λ (read : Result Spelled Fault). Told Answers read reply)
      (script_read with_input text script spelled) (told reply h)

-- ---- replies to words and bytes

same_reply : (reply other : Reply) → reply.text ≡ other.text → reply.status ≡ other.status → reply ≡ other
same_reply reply other e f = grind (arith, common_steps)

module _ (words : List (List ℕ)) (bytes : List ℕ) where
  abbrev AreAlike : (Reply → Type 0) → Type 0
  AreAlike Answers = (reply other : Reply) → Answers reply → Answers other → SayTheSame words bytes reply other

  alike_if_one : (Answers : Reply → Type 0) → IsOne Answers → AreAlike Answers
  alike_if_one Answers one reply other h k = SayTheSame.Same (one reply other h k)

  -- a build that is asked for and whose refusal is one by a bound
  pub record IsAskedBound (p : Plan) (es : List Expression) (reply : Reply) : Type 0 where
    pub table : PlanTable
    pub asked : AsksFor words bytes p es table
    pub bounded : IsBounded p es table reply

  -- a refusal of what isn't refused is one by a bound
  module _ (Refused : Cause → Type 0) (Fits : Type 0) (p : Plan) (es : List Expression)
      (bounded : (reply : Reply) → IsRefusal Refused reply → Fits → IsAskedBound p es reply) where
    built_alike : (Answers : Reply → Type 0) → AreAlike Answers → AreAlike (BuildReplies Refused Fits Answers)
    built_alike Answers alike reply other (BuildReplies.Refused h) (BuildReplies.Refused k) =
        SayTheSame.Refusals (any_cause Refused reply h) (any_cause Refused other k)
    built_alike Answers alike reply other (BuildReplies.Refused h) (BuildReplies.Answered fits k) =
        let by = bounded reply h fits in SayTheSame.Bounded p es by.table by.asked (inl by.bounded)
    built_alike Answers alike reply other (BuildReplies.Answered fits h) (BuildReplies.Refused k) =
        let by = bounded other k fits in SayTheSame.Bounded p es by.table by.asked (inr by.bounded)
    built_alike Answers alike reply other (BuildReplies.Answered fits h) (BuildReplies.Answered also k) =
        alike reply other h k

  plan_alike : (p : Plan) (es : List Expression)
      → ((table : PlanTable) → IsOfPair table → AsksFor words bytes p es table) → (Answers : Reply → Type 0)
      → AreAlike Answers → AreAlike (PlanReplies p es Answers)
  plan_alike p es asks Answers alike =
      built_alike (PlanRefused p es) (PlanFits p es) p es
      (λ reply h fits.
      let by = plan_bounded p es reply h fits in
      record { table = by.0; asked = asks by.0 by.1; bounded = by.2 })
      Answers alike

  -- ---- scripts

  script_alike : (with_input : Bool) (Answers : Spelled → Reply → Type 0)
      → ((script : Spelled) → Spells with_input bytes script → AreAlike (Answers script))
      → AreAlike (ScriptReplies with_input Answers bytes)
  script_alike with_input Answers alike reply other (ScriptReplies.Answered is) k =
      alike is.script is.spelled reply other is.holds
      (told_of with_input Answers bytes is.script is.spelled other k)
  script_alike with_input Answers alike reply other (ScriptReplies.TurnedDown h) (ScriptReplies.Answered is) =
      alike is.script is.spelled reply other
      (told_of with_input Answers bytes is.script is.spelled reply (ScriptReplies.TurnedDown h)) is.holds
  script_alike with_input Answers alike reply other (ScriptReplies.TurnedDown h) (ScriptReplies.TurnedDown k) =
      grind (arith, common_steps, told)

  asked_alike : (Answers : Spelled → Query → Reply → Type 0)
      → ((script : Spelled) (q : Query) → IsOne (Answers script q))
      → Says words (Command.Read ReadCommand.Find) ⊎ Says words (Command.Read ReadCommand.Each)
      → (script : Spelled) → Spells true bytes script → AreAlike (AskedReplies Answers script)
  asked_alike Answers one says script spelled reply other h k =
      plan_alike (plan_of script.plan) script.exprs (λ table one. AsksFor.Search one script says spelled refl refl)
      (Answers script h.query) (alike_if_one (Answers script h.query) (one script h.query)) reply other h.replies
      (subst (λ (q : Query). PlanReplies (plan_of script.plan) script.exprs (Answers script q) other)
      (cc (h.asked, k.asked)) k.replies)

  image_alike : (table : PlanTable) (order : Order) → Says words (Command.Read (ReadCommand.Image table order))
      → (script : Spelled) → Spells false bytes script → AreAlike (ImageAnswers table order script)
  image_alike table order says script spelled =
      let p = plan_of script.plan in
      built_alike (TableRefused p table script.exprs) (TableFits p table script.exprs) p script.exprs
      (λ reply h fits. record {
        table = table;
        asked = AsksFor.Image order script says spelled refl refl;
        bounded = table_bounded p script.exprs table reply h fits;
      })
      (IsImageReply p table script.exprs order)
      (λ reply other h k. SayTheSame.Images table order script says spelled h k)

  pair_alike : (order : Order) → Says words (Command.Read (ReadCommand.ImagePair order))
      → (script : Spelled) → Spells false bytes script → AreAlike (PairImageAnswers order script)
  pair_alike order says script spelled =
      let p = plan_of script.plan in
      plan_alike p script.exprs (λ table one. AsksFor.ImagePair one order script says spelled refl refl)
      (IsPairImageReply p script.exprs order)
      (λ reply other h k. SayTheSame.PairImages order script says spelled h k)

  -- ---- images of two tables

  parting_alike : (e : Equal) → Says words (Command.Read (ReadCommand.Equal e)) → (reply other : Reply)
      → (reply ≡ other) ⊎ (TellsParting e bytes reply × TellsParting e bytes other)
      → SayTheSame words bytes reply other
  parting_alike e says reply other (inl same) = SayTheSame.Same same
  parting_alike e says reply other (inr both) = SayTheSame.Partings e says both.0 both.1

  equal_alike : (e : Equal) → Says words (Command.Read (ReadCommand.Equal e)) → AreAlike (EqualReplies e bytes)
  equal_alike e says reply other h k = parting_alike e says reply other (images_once _ _ reply other h k)

  -- ---- commands

  read_alike : (command : ReadCommand) → Says words (Command.Read command) → AreAlike (ReadReplies command bytes)
  read_alike ReadCommand.Find says =
      script_alike true (AskedReplies FindAnswers) (asked_alike FindAnswers find_once (inl says))
  read_alike ReadCommand.Each says =
      script_alike true (AskedReplies EachAnswers) (asked_alike EachAnswers each_once (inr says))
  read_alike (ReadCommand.Image table order) says =
      script_alike false (ImageAnswers table order) (image_alike table order says)
  read_alike (ReadCommand.ImagePair order) says = script_alike false (PairImageAnswers order) (pair_alike order says)
  read_alike (ReadCommand.Equal e) says = equal_alike e says
  read_alike _ says = λ reply other h k. SayTheSame.Same (h ∙ sym k)

  command_alike : (command : Command) → Says words command → (ended also : Bool) (reply other : Reply)
      → CommandReplies command bytes ended reply → CommandReplies command bytes also other
      → SayTheSame words bytes reply other
  command_alike (Command.Read command) says ended also reply other h k = read_alike command says reply other h.1 k.1
  command_alike (Command.Gen count) says ended also reply other h k = grind (arith, common_steps, plan_alike)
  command_alike (Command.Feed f) says ended also reply other h k =
      let same = feed_once f.form (mode_of f.mode) f.image_len bytes ended also reply.text other.text reply.status
      other.status h k in
      SayTheSame.Same (same_reply reply other same.0 same.1)

-- a command that reads and is answered read no more than the most
long_not : (command : ReadCommand) (other : Command) (words : List (List ℕ)) (bytes : List ℕ) (ended : Bool)
    (reply : Reply) → Says words (Command.Read command) → length bytes ≡ most_bytes + 1 → Says words other
    → CommandReplies other bytes ended reply → ⊥
long_not command other words bytes ended reply says long also h = grind (arith, common_steps, spelled_once)

-- ---- the reply

pub one_reply : (words : List (List ℕ)) (bytes : List ℕ) (ended also_ended : Bool) (reply other : Reply)
    → Replies words bytes ended reply → Replies words bytes also_ended other
    → SayTheSame words bytes reply other
one_reply words bytes ended also reply other (Replies.Usage none e h) (Replies.Usage nothing f k) =
    SayTheSame.Same (h ∙ sym k)
one_reply words bytes ended also reply other (Replies.Usage none e h) (Replies.Long command says long k) =
    absurd (none (Command.Read command) says)
one_reply words bytes ended also reply other (Replies.Usage none e h) (Replies.Answered command says k) =
    absurd (none command says)
one_reply words bytes ended also reply other (Replies.Long command says long h) (Replies.Usage none f k) =
    absurd (none (Command.Read command) says)
one_reply words bytes ended also reply other (Replies.Long command says long h) (Replies.Long c s l k) =
    SayTheSame.Same (h ∙ sym k)
one_reply words bytes ended also reply other (Replies.Long command says long h) (Replies.Answered c s k) =
    absurd (long_not command c words bytes also other says long s k)
one_reply words bytes ended also reply other (Replies.Answered command says h) (Replies.Usage none f k) =
    absurd (none command says)
one_reply words bytes ended also reply other (Replies.Answered command says h) (Replies.Long c s l k) =
    absurd (long_not c command words bytes ended reply s l says h)
one_reply words bytes ended also reply other (Replies.Answered command says h) (Replies.Answered c s k) =
    command_alike words bytes command says ended also reply other h
    (subst (λ (d : Command). CommandReplies d bytes also other) (spelled_once c command words s says) k)

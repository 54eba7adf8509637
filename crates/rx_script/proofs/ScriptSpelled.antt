-- Scripts: what is read is spelled so.
use Rattle.rx_spec.proofs.Prelude.{common_steps, ◌≡◌, ◌⊎◌, inl, inr, ℕ, ◌+◌, ◌<◌, Bool, true, false, cond, leb, List}
use Rattle.rx_spec.proofs.Prelude.{[], ◌∷◌, ◌++◌, length, map, Option, Some, None, Ok, refl, sym, ap, subst, ◌∙◌, arith}
use Rattle.rx_spec.proofs.Prelude.{AllByRecursion, leb-true, and_parts, same_Some, length-map, map-append, Expression}
use Rattle.rx_spec.proofs.Prelude.{Query}
use Rattle.rx_base.specs.Search.{mode_of}
use Rattle.rx_base.specs.declared.search.Anchored.{Anchored as Mode}
use Rattle.rx_script.specs.declared.fault.BadKind.{BadKind}
use Rattle.rx_script.specs.declared.names.LineKind.{LineKind}
use Rattle.rx_script.specs.declared.plan_words.Choices.{Choices}
use Rattle.rx_script.specs.declared.script.InputLine.{InputLine}
use Rattle.rx_script.specs.Pieces.{lines_of, words_of, is_spaced}
use Rattle.rx_script.specs.Names.{line_name, line_kind}
use Rattle.rx_script.specs.Tokens.{number_of, mode_word}
use Rattle.rx_script.specs.Plans.{unplanned, plan_of}
use Rattle.rx_script.specs.Grammar.{IsLine, line_text, lines_text, SpellsNumber, SpellsMode, SpellsBytes}
use Rattle.rx_script.specs.Grammar.{SpellsExpression, Headed, SpellsPlan, SpellsPlanLines, SpellsExprs, SpellsQuery}
use Rattle.rx_script.specs.Grammar.{SpellsAsked, Spelled, Spells}
use Rattle.rx_script.specs.Faults.{refused, ◌>>=◌}
use Rattle.rx_script.specs.Items.{expression_at}
use Rattle.rx_script.specs.Reading.{kind_of, others_of, line_at, asked_of, input_words, hay_words, nothing_at, fits}
use Rattle.rx_script.specs.Reading.{query_of, asked_at, hay_kind, hay_at, input_at, Next, next_kind, ended, next_at}
use Rattle.rx_script.specs.Reading.{Lines, read_after, lines_at, spelled, plan_kind, plan_at, planned, script_of}
use Rattle.rx_script.proofs.Faults.{bind_ok, ok_is, needed_then, passed}
use Rattle.rx_script.proofs.Tables.{line_spelled}
use Rattle.rx_script.proofs.Numbers.{number_spelled}
use Rattle.rx_script.proofs.Bytes.{bytes_spelled}
use Rattle.rx_script.proofs.Modes.{mode_spelled}
use Rattle.rx_script.proofs.PlanWords.{plan_spelled}
use Rattle.rx_script.proofs.SpelledLines.{spaced_line, IsJoined, lines_joined, each-append}
use Rattle.rx_script.proofs.ExpressionSpelled.{expression_spelled}
use Rattle.rx_script.proofs.LinesAt.{Read}

-- ---- one line

-- a line that was tested: a first word of a kind, and others
record IsTested (line : List ℕ) (kind : Option LineKind) (others : List (List ℕ)) : Type 0 where
  first : List ℕ
  words : IsLine (first ∷ others)
  text : line ≡ line_text (first ∷ others)
  named : line_kind first ≡ kind

tested : (n : ℕ) (line : List ℕ) (kind : Option LineKind) (others : List (List ℕ)) → line_at n line ≡ Ok (kind, others)
    → IsTested line kind others
tested n line kind others e =
    let read : Option LineKind × List (List ℕ) = (kind_of (words_of line), others_of (words_of line)) in
    let p = passed (is_spaced true line) (Ok read) n BadKind.Words (kind, others) e in
    let s = spaced_line line p.0 in
    let same = ok_is read (kind, others) p.1 in
    on (words_of line) s.0 s.1 (ap (λ (x : Option LineKind × List (List ℕ)). x.0) same)
    (ap (λ (x : Option LineKind × List (List ℕ)). x.1) same) where
      on : (words : List (List ℕ)) → IsLine words → line ≡ line_text words → kind_of words ≡ kind
          → others_of words ≡ others → IsTested line kind others
      on [] w t k o = absurd (omega arith)
      on (first ∷ more) w t k o = grind (arith, common_steps)

headed : {line : List ℕ} {kind : LineKind} {others : List (List ℕ)} (P : List (List ℕ) → Type 0)
    → (t : IsTested line (Some kind) others) → P others → Headed kind P (t.first ∷ others)
headed {kind = kind} {others = others} P t p =
    (others, p, ap (λ (f : List ℕ). f ∷ others) (line_spelled t.first kind t.named))

-- ---- what is asked

nothing_spelled : (n : ℕ) (lines : List (List ℕ)) → nothing_at n lines ≡ Ok tt → lines ≡ []
nothing_spelled n [] e = refl
nothing_spelled n (line ∷ lines) e = grind (arith, common_steps)

-- three words that spell a span and a mode
record SpellsSpan (asked : InputLine) (words : List (List ℕ)) : Type 0 where
  start : List ℕ
  end : List ℕ
  mode : List ℕ
  words_are : words ≡ start ∷ (end ∷ (mode ∷ []))
  start_spelled : SpellsNumber asked.start start
  end_spelled : SpellsNumber asked.end end
  mode_spelled : SpellsMode (mode_of asked.mode) mode

span_spelled : (words : List (List ℕ)) (asked : InputLine) → input_words words ≡ Some asked → SpellsSpan asked words
span_spelled (a ∷ (b ∷ (m ∷ []))) asked e = on (number_of a) (number_of b) (mode_word m) refl refl refl e where
  on : (x y : Option ℕ) (z : Option Mode) → number_of a ≡ x → number_of b ≡ y → mode_word m ≡ z
      → asked_of x y z ≡ Some asked → SpellsSpan asked (a ∷ (b ∷ (m ∷ [])))
  on None y z p q r s = absurd cc
  on (Some x) None z p q r s = absurd cc
  on (Some x) (Some y) None p q r s = absurd cc
  on (Some x) (Some y) (Some z) p q r s =
      subst (λ (t : InputLine). SpellsSpan t (a ∷ (b ∷ (m ∷ []))))
      (same_Some (record { start = x; end = y; mode = z }) asked s)
      (record {
        start = a;
        end = b;
        mode = m;
        words_are = refl;
        start_spelled = number_spelled a x p;
        end_spelled = number_spelled b y q;
        mode_spelled = mode_spelled m z r;
      })
span_spelled _ asked e = absurd cc

hay_spelled : (words : List (List ℕ)) (hay : List ℕ) → hay_words words ≡ Some hay
    → (word : List ℕ) × (words ≡ word ∷ []) × SpellsBytes hay word
hay_spelled (word ∷ []) hay e = (word, refl, bytes_spelled word hay e)
hay_spelled [] hay e = absurd cc
hay_spelled (a ∷ (b ∷ bs)) hay e = absurd cc

-- the words after input, and the lines after it
record IsAsked (words : List (List ℕ)) (lines : List (List ℕ)) (q : Query) : Type 0 where
  hay : List (List ℕ)
  hay_line : IsLine hay
  lines_are : lines ≡ line_text hay ∷ []
  spelled : SpellsQuery q (line_name LineKind.Input ∷ words) hay

asked_spelled
    : {asked : InputLine} {inputs others : List (List ℕ)} {line : List ℕ} (n : ℕ) (lines : List (List ℕ)) (q : Query)
    → SpellsSpan asked inputs → IsTested line (Some LineKind.Hay) others → asked_at n asked others lines ≡ Ok q
    → IsAsked inputs (line ∷ lines) q
unfolding asked_at
asked_spelled {asked = asked} {inputs = inputs} {others = others} {line = line} n lines q span t h =
    let ending = λ (hay : List ℕ). nothing_at (n + 1) lines >>= λ nothing. Ok (query_of asked hay) in
    let tested = λ (hay : List ℕ). cond (fits asked hay) (ending hay) (refused n BadKind.Span) in
    let x = needed_then n BadKind.Hay (hay_words others) tested q h in
    let hay = x.0 in
    let w = hay_spelled others hay x.1 in
    let p = passed (fits asked hay) (ending hay) n BadKind.Span q x.2 in
    let r = bind_ok (nothing_at (n + 1) lines) (λ nothing. Ok (query_of asked hay)) q p.1 in
    let f = and_parts (leb asked.end (length hay)) (leb asked.start (asked.end + 1)) p.0 in
    let hay_name = line_spelled t.first LineKind.Hay t.named in
    let made : SpellsQuery (query_of asked hay) (line_name LineKind.Input ∷ inputs) (t.first ∷ others) =
    grind (arith, common_steps, leb-true) in
    record {
      hay = t.first ∷ others;
      hay_line = t.words;
      lines_are = ap (λ (l : List ℕ). l ∷ lines) t.text
          ∙ ap (λ (ls : List (List ℕ)). line_text (t.first ∷ others) ∷ ls) (nothing_spelled (n + 1) lines r.1);
      spelled =
          subst (λ (y : Query). SpellsQuery y (line_name LineKind.Input ∷ inputs) (t.first ∷ others))
          (ok_is (query_of asked hay) q r.2) made;
    }

hay_kind_spelled : {asked : InputLine} {inputs others : List (List ℕ)} {line : List ℕ} (n : ℕ) (kind : Option LineKind)
    → (lines : List (List ℕ)) (q : Query) → SpellsSpan asked inputs → IsTested line kind others
    → hay_kind n asked kind others lines ≡ Ok q → IsAsked inputs (line ∷ lines) q
hay_kind_spelled n (Some LineKind.Hay) lines q span t h = asked_spelled n lines q span t h
hay_kind_spelled n _ lines q span t h = absurd cc

hay_at_spelled : {asked : InputLine} {inputs : List (List ℕ)} (n : ℕ) (lines : List (List ℕ)) (q : Query)
    → SpellsSpan asked inputs → hay_at n asked lines ≡ Ok q → IsAsked inputs lines q
unfolding hay_at
hay_at_spelled n [] q span h = absurd cc
hay_at_spelled {asked = asked} n (line ∷ lines) q span h =
    let x = bind_ok (line_at n line) (λ read. hay_kind n asked read.0 read.1 lines) q h in
    hay_kind_spelled n x.0.0 lines q span (tested n line x.0.0 x.0.1 x.1) x.2

input_spelled
    : (n : ℕ) (words lines : List (List ℕ)) (q : Query) → input_at n words lines ≡ Ok q → IsAsked words lines q
unfolding input_at
input_spelled n words lines q h =
    let x = needed_then n BadKind.Input (input_words words) (λ asked. hay_at (n + 1) asked lines) q h in
    hay_at_spelled (n + 1) lines q (span_spelled words x.0 x.1) x.2

-- ---- the lines after the plan

record AreLines (w : Bool) (lines : List (List ℕ)) (read : Lines) : Type 0 where
  expr_lines : List (List (List ℕ))
  asked_lines : List (List (List ℕ))
  each : AllByRecursion IsLine (expr_lines ++ asked_lines)
  lines_are : lines ≡ map line_text (expr_lines ++ asked_lines)
  exprs_spelled : SpellsExprs read.0 expr_lines
  asked_spelled : SpellsAsked w read.1 asked_lines

expr_in_front : {w : Bool} {line : List ℕ} {lines others : List (List ℕ)} {e : Expression} {read : Lines}
    → IsTested line (Some LineKind.Expr) others → SpellsExpression e others → AreLines w lines read
    → AreLines w (line ∷ lines) (e ∷ read.0, read.1)
expr_in_front {line = line} {lines = lines} {others = others} {e = e} t s more = record {
  expr_lines = (t.first ∷ others) ∷ more.expr_lines;
  asked_lines = more.asked_lines;
  each = (t.words, more.each);
  lines_are = grind (arith, common_steps);
  exprs_spelled = (headed (SpellsExpression e) t s, more.exprs_spelled);
  asked_spelled = more.asked_spelled;
}

asked_alone : {line : List ℕ} {lines others : List (List ℕ)} {q : Query} → IsTested line (Some LineKind.Input) others
    → IsAsked others lines q → AreLines true (line ∷ lines) ([], Some q)
asked_alone {line = line} {lines = lines} {others = others} {q = q} t a = record {
  expr_lines = [];
  asked_lines = (t.first ∷ others) ∷ (a.hay ∷ []);
  each = (t.words, (a.hay_line, tt));
  lines_are =
      ap (λ (l : List ℕ). l ∷ lines) t.text
      ∙ ap (λ (ls : List (List ℕ)). line_text (t.first ∷ others) ∷ ls) a.lines_are;
  exprs_spelled = tt;
  asked_spelled =
      subst (λ (f : List ℕ). SpellsQuery q (f ∷ others) a.hay) (sym (line_spelled t.first LineKind.Input t.named))
      a.spelled;
}

-- what the next line was read as
abbrev IsNext : Bool → List ℕ → List (List ℕ) → Next → Type 0
IsNext w line tail (Next.Expr e after) =
    (others : List (List ℕ)) × IsTested line (Some LineKind.Expr) others × SpellsExpression e others
IsNext w line tail (Next.Input words after) = (w ≡ true) × IsTested line (Some LineKind.Input) words × (after ≡ tail)
IsNext w line tail Next.End = ⊥

next_spelled
    : {line : List ℕ} {others : List (List ℕ)} (w : Bool) (n : ℕ) (kind : Option LineKind) (tail : List (List ℕ))
    → (next : Next) → IsTested line kind others → next_kind w n kind others tail ≡ Ok next → IsNext w line tail next
next_spelled {line = line} {others = others} w n (Some LineKind.Expr) tail next t h =
    let e = bind_ok (expression_at n others) (λ e. Ok (Next.Expr e tail)) next h in
    subst (IsNext w line tail) (ok_is (Next.Expr e.0 tail) next e.2)
    (others, t, expression_spelled n others e.0 e.1)
next_spelled {line = line} {others = others} true n (Some LineKind.Input) tail next t h =
    subst (IsNext true line tail) (ok_is (Next.Input others tail) next h) (refl, t, refl)
next_spelled false n (Some LineKind.Input) tail next t h = absurd cc
next_spelled w n _ tail next t h = absurd cc

-- whatever is read of lines is spelled by them
record MoreLines (w : Bool) (lines : List (List ℕ)) (more : Read) : Type 0 where
  are : (read : Lines) → more ≡ Ok read → AreLines w lines read

lines_step : {w : Bool} {lines : List (List ℕ)} {more : Read} (n : ℕ) (line : List ℕ) (next : Next) (read : Lines)
    → MoreLines w lines more → IsNext w line lines next → read_after n more next ≡ Ok read
    → AreLines w (line ∷ lines) read
lines_step {w = w} {lines = lines} {more = more} n line (Next.Expr e after) read again (others, t, s) h =
    let m = bind_ok more (λ rest. Ok (e ∷ rest.0, rest.1)) read h in
    subst (AreLines w (line ∷ lines)) (ok_is (e ∷ m.0.0, m.0.1) read m.2) (expr_in_front t s (again.are m.0 m.1))
lines_step {w = w} {lines = lines} n line (Next.Input words after) read again (with_input, t, tail) h =
    let alone = λ (q : Query). let lines : Lines = ([], Some q) in lines in
    let m = bind_ok (input_at n words after) (λ query. Ok (alone query)) read h in
    let a = subst (λ (ls : List (List ℕ)). IsAsked words ls m.0) tail (input_spelled n words after m.0 m.1) in
    subst (λ (v : Bool). AreLines v (line ∷ lines) read) (sym with_input)
    (subst (AreLines true (line ∷ lines)) (ok_is (alone m.0) read m.2) (asked_alone t a))
lines_step n line Next.End read again is h = absurd is

no_lines : (w : Bool) (n : ℕ) (next : Next) (read : Lines) → ended w n ≡ Ok next
    → read_after n (Ok ([], None)) next ≡ Ok read → AreLines w [] read
no_lines true n next read e h = absurd cc
no_lines false n next read e h =
    let none : Lines = ([], None) in
    let h' = ap (read_after n (Ok none)) (ok_is Next.End next e) ∙ h in
    subst (AreLines false []) (ok_is none read h')
    (record { expr_lines = []; asked_lines = []; each = tt; lines_are = refl; exprs_spelled = tt; asked_spelled = tt })

lines_spelled : (w : Bool) (n : ℕ) (lines : List (List ℕ)) → MoreLines w lines (lines_at w n lines)
unfolding lines_at next_at
lines_spelled w n [] = record {
  are = λ read h. let b = bind_ok (ended w n) (read_after n (Ok ([], None))) read h in no_lines w n b.0 read b.1 b.2;
}
lines_spelled w n (line ∷ lines) = record {
  are = λ read h.
      let kinds = λ (x : Option LineKind × List (List ℕ)). next_kind w n x.0 x.1 lines in
      let b = bind_ok (line_at n line >>= kinds) (read_after n (lines_at w (n + 1) lines)) read h in
      let l = bind_ok (line_at n line) kinds b.0 b.1 in
      let is = next_spelled w n l.0.0 lines b.0 (tested n line l.0.0 l.0.1 l.1) l.2 in
      lines_step n line b.0 read (lines_spelled w (n + 1) lines) is b.2;
}

-- ---- the script

-- the lines of a text: a plan line or none, and the rest
record HasPlan (text : List ℕ) (choices : Choices) (rest : List (List ℕ)) : Type 0 where
  plan_lines : List (List (List ℕ))
  lines_are : lines_of text ≡ map line_text plan_lines ++ rest
  each : AllByRecursion IsLine plan_lines
  spelled : SpellsPlanLines choices plan_lines

joined_text : (text : List ℕ) (lines : List (List (List ℕ))) → IsJoined text (map line_text lines)
    → (text ≡ lines_text lines) ⊎ ((0 < length lines) × (text ≡ lines_text lines ++ 10 ∷ []))
joined_text text lines (inl p) = inl p
joined_text text lines (inr p) = inr (omega (arith, length-map {A = List (List ℕ)} {B = List ℕ}), p.1)

whole_spelled : {w : Bool} {text : List ℕ} {choices : Choices} {rest : List (List ℕ)} {read : Lines}
    → HasPlan text choices rest → AreLines w rest read
    → Spells w text (record { plan = choices.plan; rows = choices.rows; exprs = read.0; asked = read.1 })
whole_spelled {text = text} p lines =
    let others = lines.expr_lines ++ lines.asked_lines in
    let all = p.plan_lines ++ others in
    let are : lines_of text ≡ map line_text all =
    p.lines_are ∙ ap (λ (l : List (List ℕ)). map line_text p.plan_lines ++ l) lines.lines_are
    ∙ sym (map-append line_text p.plan_lines others) in
    record {
      plan_lines = p.plan_lines;
      expr_lines = lines.expr_lines;
      asked_lines = lines.asked_lines;
      lines = record {
        each = each-append IsLine p.plan_lines others p.each lines.each;
        joined = joined_text text all (subst (IsJoined text) are (lines_joined text));
      };
      plan = p.spelled;
      exprs = lines.exprs_spelled;
      asked = lines.asked_spelled;
    }

no_plan : (text : List ℕ) → HasPlan text unplanned (lines_of text)
no_plan text = record { plan_lines = []; lines_are = refl; each = tt; spelled = refl }

abbrev HasPlanOf : List ℕ → Option (Choices × List (List ℕ)) → Type 0
HasPlanOf text None = HasPlan text unplanned (lines_of text)
HasPlanOf text (Some plan) = HasPlan text plan.0 plan.1

plan_kind_spelled : {line : List ℕ} {lines others : List (List ℕ)} (text : List ℕ) (kind : Option LineKind)
    → (plan : Option (Choices × List (List ℕ))) → lines_of text ≡ line ∷ lines → IsTested line kind others
    → plan_kind kind others lines ≡ Ok plan → HasPlanOf text plan
plan_kind_spelled {lines = lines} {others = others} text (Some LineKind.Plan) plan e t h =
    let c = needed_then 1 BadKind.Plan (plan_of others) (λ choices. Ok (Some (choices, lines))) plan h in
    subst (HasPlanOf text) (ok_is (Some (c.0, lines)) plan c.2)
    (record {
      plan_lines = (t.first ∷ others) ∷ [];
      lines_are = e ∙ ap (λ (l : List ℕ). l ∷ lines) t.text;
      each = (t.words, tt);
      spelled = headed (SpellsPlan c.0) t (plan_spelled others c.0 c.1);
    })
plan_kind_spelled text _ plan e t h = subst (HasPlanOf text) (ok_is None plan h) (no_plan text)

plan_at_spelled : (text : List ℕ) (plan : Option (Choices × List (List ℕ))) → plan_at (lines_of text) ≡ Ok plan
    → HasPlanOf text plan
unfolding plan_at
plan_at_spelled text plan h = on (lines_of text) refl h where
  on : (lines : List (List ℕ)) → lines_of text ≡ lines → plan_at lines ≡ Ok plan → HasPlanOf text plan
  on [] e z = subst (HasPlanOf text) (ok_is None plan z) (no_plan text)
  on (line ∷ lines) e z =
      let l = bind_ok (line_at 1 line) (λ read. plan_kind read.0 read.1 lines) plan z in
      plan_kind_spelled text l.0.0 plan e (tested 1 line l.0.0 l.0.1 l.1) l.2

abbrev whole : Choices → Lines → Spelled
whole choices read = record { plan = choices.plan; rows = choices.rows; exprs = read.0; asked = read.1 }

rest_spelled : {text : List ℕ} {choices : Choices} {rest : List (List ℕ)} (w : Bool) (n : ℕ) (s : Spelled)
    → HasPlan text choices rest → spelled choices (lines_at w n rest) ≡ Ok s → Spells w text s
rest_spelled {text = text} {choices = choices} {rest = rest} w n s p h =
    let made = λ (read : Lines). whole choices read in
    let x = bind_ok (lines_at w n rest) (λ read. Ok (made read)) s h in
    subst (Spells w text) (ok_is (made x.0) s x.2) (whole_spelled p ((lines_spelled w n rest).are x.0 x.1))

pub script_spelled : (w : Bool) (text : List ℕ) (s : Spelled) → script_of w text ≡ Ok s → Spells w text s
unfolding script_of
script_spelled w text s h =
    let b = bind_ok (plan_at (lines_of text)) (planned w (lines_of text)) s h in
    on b.0 (plan_at_spelled text b.0 b.1) b.2 where
      on : (plan : Option (Choices × List (List ℕ))) → HasPlanOf text plan → planned w (lines_of text) plan ≡ Ok s
          → Spells w text s
      on None p z = rest_spelled w 1 s p z
      on (Some plan) p z = rest_spelled w 2 s p z

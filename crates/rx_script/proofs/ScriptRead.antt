-- Scripts: what is spelled so is read.
use Rattle.rx_spec.proofs.Prelude.{arith, ◌≡◌, ℕ, ◌+◌, ◌≤◌, Bool, true, false, List, [], ◌∷◌, ◌++◌, length, map, Option}
use Rattle.rx_spec.proofs.Prelude.{Some, None, Result, Ok, refl, sym, ap, ◌∙◌, common_steps, AllByRecursion, le-leb}
use Rattle.rx_spec.proofs.Prelude.{and_from, Expression, Query}
use Rattle.rx_base.specs.Search.{mode_of}
use Rattle.rx_script.specs.declared.names.LineKind.{LineKind}
use Rattle.rx_script.specs.declared.plan_words.Choices.{Choices}
use Rattle.rx_script.specs.declared.script.InputLine.{InputLine}
use Rattle.rx_script.specs.Names.{line_name}
use Rattle.rx_script.specs.Tokens.{number_of, mode_word}
use Rattle.rx_script.specs.Grammar.{IsLine, line_text, SpellsExpression, Headed, SpellsPlan, SpellsPlanLines}
use Rattle.rx_script.specs.Grammar.{SpellsExprs, SpellsQuery, SpellsAsked, Spelled, Spells}
use Rattle.rx_script.specs.Faults.{Fault, ◌>>=◌}
use Rattle.rx_script.specs.Reading.{kind_of, others_of, line_at, input_words, fits, query_of, asked_at, hay_at}
use Rattle.rx_script.specs.Reading.{input_at, next_at, Lines, with_expr, lines_at, plan_at, planned, script_of}
use Rattle.rx_script.proofs.Tables.{line_read}
use Rattle.rx_script.proofs.Numbers.{number_read}
use Rattle.rx_script.proofs.Bytes.{bytes_read}
use Rattle.rx_script.proofs.Modes.{mode_read}
use Rattle.rx_script.proofs.PlanWords.{plan_read}
use Rattle.rx_script.proofs.SpelledLines.{line_spaced, line_words, spelled_lines}
use Rattle.rx_script.proofs.ExpressionRead.{expression_read}

-- a line with this first word
headed_read : (n : ℕ) (kind : LineKind) (words others : List (List ℕ)) → IsLine words → words ≡ line_name kind ∷ others
    → line_at n (line_text words) ≡ Ok (Some kind, others)
headed_read n kind words others w e =
    rw (line_spaced words true w.1 w.0, line_words words w.1 w.0)
    (ap (λ (x : List (List ℕ)). Ok (kind_of x, others_of x)) e
    ∙ ap (λ (k : Option LineKind). Ok (k, others)) (line_read kind))

-- ---- what is asked

-- the span and the mode of a query, as the reader has them
record IsSpanOf (asked : InputLine) (q : Query) : Type 0 where
  start : asked.start ≡ q.start
  end : asked.end ≡ q.end
  mode : mode_of asked.mode ≡ q.mode

same_query : {asked : InputLine} {q : Query} → IsSpanOf asked q → q.earliest ≡ false → query_of asked q.haystack ≡ q
same_query {asked = asked} {q = q} s whole = grind (arith, common_steps)

span_fits : {asked : InputLine} {q : Query} → IsSpanOf asked q → q.end ≤ length q.haystack → q.start ≤ q.end + 1
    → fits asked q.haystack ≡ true
span_fits {asked = asked} {q = q} s within ordered =
    rw (s.start, s.end) (and_from _ _ (le-leb q.end (length q.haystack) within) (le-leb q.start (q.end + 1) ordered))

numbers_read : (asked : InputLine) (a b m : List ℕ) → number_of a ≡ Some asked.start → number_of b ≡ Some asked.end
    → mode_word m ≡ Some asked.mode → input_words (a ∷ (b ∷ (m ∷ []))) ≡ Some asked
numbers_read asked a b m p q r = rw (p, q, r) refl

asked_again : {q : Query} {input hay : List (List ℕ)} (n : ℕ) (asked : InputLine) → SpellsQuery q input hay
    → fits asked q.haystack ≡ true → IsLine hay → hay_at n asked (line_text hay ∷ []) ≡ Ok (query_of asked q.haystack)
unfolding hay_at asked_at
asked_again {q = q} {hay = hay} n asked s fit line =
    let first = headed_read n LineKind.Hay hay (s.bytes ∷ []) line s.hay_words in
    let bytes = bytes_read s.bytes q.haystack s.hay_spelled in
    rw (first, bytes, fit) refl

query_read : {q : Query} {input hay : List (List ℕ)} (n : ℕ) → IsLine input → IsLine hay → SpellsQuery q input hay
    → lines_at true n (line_text input ∷ (line_text hay ∷ [])) ≡ Ok ([], Some q)
unfolding lines_at next_at input_at
query_read {q = q} {input = input} {hay = hay} n input_line hay_line s =
    let m = mode_read s.mode q.mode s.mode_spelled in
    let asked : InputLine = record { start = q.start; end = q.end; mode = m.0 } in
    let span : IsSpanOf asked q = record { start = refl; end = refl; mode = m.2 } in
    let start = number_read s.start q.start s.start_spelled in
    let end = number_read s.end q.end s.end_spelled in
    let first = headed_read n LineKind.Input input (s.start ∷ (s.end ∷ (s.mode ∷ []))) input_line s.input_words in
    let words = numbers_read asked s.start s.end s.mode start end m.1 in
    let hay_read = asked_again (n + 1) asked s (span_fits span s.within s.ordered) hay_line in
    rw (first, words, hay_read) (ap (λ (x : Query). Ok ([], Some x)) (same_query span s.whole))

end_read : (n : ℕ) → lines_at false n [] ≡ Ok ([], None)
unfolding lines_at next_at
end_read n = refl

asked_read : (w : Bool) (n : ℕ) (lines : List (List (List ℕ))) (asked : Option Query) → AllByRecursion IsLine lines
    → SpellsAsked w asked lines → lines_at w n (map line_text lines) ≡ Ok ([], asked)
asked_read true n (input ∷ (hay ∷ [])) (Some q) each s = query_read n each.0 each.1.0 s
asked_read true n [] (Some q) each s = absurd s
asked_read true n (a ∷ []) (Some q) each s = absurd s
asked_read true n (a ∷ (b ∷ (c ∷ ls))) (Some q) each s = absurd s
asked_read true n lines None each s = absurd s
asked_read false n [] None each s = end_read n
asked_read false n (a ∷ ls) None each s = absurd s
asked_read false n lines (Some q) each s = absurd s

-- ---- the lines after the plan

-- lines that spell expressions, and what is asked
record SpellLines (w : Bool) (exprs asked_lines : List (List (List ℕ))) (read : Lines) : Type 0 where
  each : AllByRecursion IsLine (exprs ++ asked_lines)
  exprs_spelled : SpellsExprs read.0 exprs
  asked_spelled : SpellsAsked w read.1 asked_lines

expr_again : (w : Bool) (n : ℕ) (words : List (List ℕ)) (lines : List (List ℕ)) (e : Expression) → IsLine words
    → Headed LineKind.Expr (SpellsExpression e) words
    → lines_at w n (line_text words ∷ lines) ≡ with_expr e (lines_at w (n + 1) lines)
unfolding lines_at next_at
expr_again w n words lines e line (others, s, is) =
    rw (headed_read n LineKind.Expr words others line is, expression_read n others e s) refl

lines_read : (w : Bool) (n : ℕ) (expr_lines asked_lines : List (List (List ℕ))) (read : Lines)
    → SpellLines w expr_lines asked_lines read → lines_at w n (map line_text (expr_lines ++ asked_lines)) ≡ Ok read
lines_read w n [] asked_lines ([], asked) s = asked_read w n asked_lines asked s.each s.asked_spelled
lines_read w n [] asked_lines (e ∷ es, asked) s = absurd s.exprs_spelled
lines_read w n (words ∷ lines) asked_lines ([], asked) s = absurd s.exprs_spelled
lines_read w n (words ∷ lines) asked_lines (e ∷ es, asked) s =
    let more : SpellLines w lines asked_lines (es, asked) =
    record { each = s.each.1; exprs_spelled = s.exprs_spelled.1; asked_spelled = s.asked_spelled } in
    expr_again w n words (map line_text (lines ++ asked_lines)) e s.each.0 s.exprs_spelled.0
    ∙ ap (with_expr e) (lines_read w (n + 1) lines asked_lines (es, asked) more)

-- ---- the plan line

-- a first line that is no plan line
no_plan_asked : (w : Bool) (lines : List (List (List ℕ))) (asked : Option Query) → AllByRecursion IsLine lines
    → SpellsAsked w asked lines → plan_at (map line_text lines) ≡ Ok None
unfolding plan_at
no_plan_asked true (input ∷ (hay ∷ [])) (Some q) each s =
    rw (headed_read 1 LineKind.Input input (s.start ∷ (s.end ∷ (s.mode ∷ []))) each.0 s.input_words) refl
no_plan_asked true [] (Some q) each s = absurd s
no_plan_asked true (a ∷ []) (Some q) each s = absurd s
no_plan_asked true (a ∷ (b ∷ (c ∷ ls))) (Some q) each s = absurd s
no_plan_asked true lines None each s = absurd s
no_plan_asked false [] None each s = refl
no_plan_asked false (a ∷ ls) None each s = absurd s
no_plan_asked false lines (Some q) each s = absurd s

no_plan : (w : Bool) (expr_lines asked_lines : List (List (List ℕ))) (read : Lines)
    → SpellLines w expr_lines asked_lines read → plan_at (map line_text (expr_lines ++ asked_lines)) ≡ Ok None
unfolding plan_at
no_plan w [] asked_lines read s = no_plan_asked w asked_lines read.1 s.each s.asked_spelled
no_plan w (words ∷ lines) asked_lines ([], asked) s = absurd s.exprs_spelled
no_plan w (words ∷ lines) asked_lines (e ∷ es, asked) s =
    let first = s.exprs_spelled.0 in
    rw (headed_read 1 LineKind.Expr words first.0 s.each.0 first.2) refl

plan_again : (words : List (List ℕ)) (lines : List (List ℕ)) (choices : Choices) → IsLine words
    → Headed LineKind.Plan (SpellsPlan choices) words → plan_at (line_text words ∷ lines) ≡ Ok (Some (choices, lines))
unfolding plan_at
plan_again words lines choices line (others, s, is) =
    rw (headed_read 1 LineKind.Plan words others line is, plan_read others choices s) refl

-- ---- the script

abbrev plan_first : Bool → List (List ℕ) → Result Spelled Fault
plan_first w lines = plan_at lines >>= planned w lines

abbrev whole : Choices → Lines → Spelled
whole choices read = record { plan = choices.plan; rows = choices.rows; exprs = read.0; asked = read.1 }

pub script_read : (w : Bool) (text : List ℕ) (s : Spelled) → Spells w text s → script_of w text ≡ Ok s
unfolding script_of
script_read w text s sp =
    let all = sp.plan_lines ++ (sp.expr_lines ++ sp.asked_lines) in
    ap (plan_first w) (spelled_lines all text sp.lines)
    ∙ on sp.plan_lines sp.lines.each sp.plan where
      on : (plan_lines : List (List (List ℕ))) → AllByRecursion IsLine (plan_lines ++ (sp.expr_lines ++ sp.asked_lines))
          → SpellsPlanLines (record { plan = s.plan; rows = s.rows }) plan_lines
          → plan_first w (map line_text (plan_lines ++ (sp.expr_lines ++ sp.asked_lines))) ≡ Ok s
      on [] each plan =
          let rest : SpellLines w sp.expr_lines sp.asked_lines (s.exprs, s.asked) =
          record { each = each; exprs_spelled = sp.exprs; asked_spelled = sp.asked } in
          let none = no_plan w sp.expr_lines sp.asked_lines (s.exprs, s.asked) rest in
          let lines = lines_read w 1 sp.expr_lines sp.asked_lines (s.exprs, s.asked) rest in
          rw (none, lines) (ap (λ (c : Choices). Ok (whole c (s.exprs, s.asked))) (sym plan))
      on (words ∷ []) each plan =
          let rest : SpellLines w sp.expr_lines sp.asked_lines (s.exprs, s.asked) =
          record { each = each.1; exprs_spelled = sp.exprs; asked_spelled = sp.asked } in
          let choices : Choices = record { plan = s.plan; rows = s.rows } in
          let first = plan_again words (map line_text (sp.expr_lines ++ sp.asked_lines)) choices each.0 plan in
          let lines = lines_read w 2 sp.expr_lines sp.asked_lines (s.exprs, s.asked) rest in
          rw (first, lines) refl
      on (a ∷ (b ∷ ls)) each plan = absurd plan

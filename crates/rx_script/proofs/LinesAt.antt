-- Reading lines one after the other, as a loop does.
use Rattle.rx_spec.proofs.Prelude.{◌≡◌, ℕ, ◌+◌, Bool, true, false, List, [], ◌∷◌, ◌++◌, Option, Some, None, Result, Ok}
use Rattle.rx_spec.proofs.Prelude.{Err, refl, sym, ap, ◌∙◌, append_assoc, append-nil, Expression, Query}
use Rattle.rx_script.specs.declared.fault.ScriptFault.{ScriptFault}
use Rattle.rx_script.specs.declared.names.LineKind.{LineKind}
use Rattle.rx_script.specs.Faults.{Fault, Fails, ◌>>=◌}
use Rattle.rx_script.specs.Reading.{Next, Lines, line_at, next_kind, next_at, read_after, with_expr, input_at, lines_at}
use Rattle.rx_script.specs.Items.{expression_at}
use Rattle.rx_script.proofs.Faults.{bind_ok, ok_is}

abbrev pub Read : Type 0
Read = Result Lines Fault

-- expressions in front of what is read
abbrev pub in_front : List Expression → Read → Read
in_front front read = read >>= λ x. Ok (front ++ x.0, x.1)

in_front_more : (front : List Expression) (e : Expression) (read : Read)
    → in_front (front ++ e ∷ []) read ≡ in_front front (with_expr e read)
in_front_more front e (Ok x) = ap (λ (es : List Expression). Ok (es, x.1)) (append_assoc front (e ∷ []) x.0)
in_front_more front e (Err d) = refl

-- ---- what the next line is, and what is read with it

tail_is : (w : Bool) (n : ℕ) (kind : Option LineKind) (words tail after : List (List ℕ)) (e : Expression)
    → next_kind w n kind words tail ≡ Ok (Next.Expr e after) → tail ≡ after
tail_is w n (Some LineKind.Expr) words tail after e h =
    let b = bind_ok (expression_at n words) (λ e. Ok (Next.Expr e tail)) (Next.Expr e after) h in
    let s = ok_is (Next.Expr b.0 tail) (Next.Expr e after) b.2 in cc
tail_is true n (Some LineKind.Input) words tail after e h = absurd cc
tail_is false n (Some LineKind.Input) words tail after e h = absurd cc
tail_is w n _ words tail after e h = absurd cc

-- what is read with the next line, where the lines are none, or some
with_next : (w : Bool) (n : ℕ) (lines : List (List ℕ))
    → (more : Read) × (lines_at w n lines ≡ (next_at w n lines >>= read_after n more))
unfolding lines_at
with_next w n [] = (Ok ([], None), refl)
with_next w n (line ∷ tail) = (lines_at w (n + 1) tail, refl)

lines_by : (w : Bool) (n : ℕ) (lines : List (List ℕ)) (next : Result Next Fault) (read : Read)
    → next_at w n lines ≡ next → ((more : Read) → (next >>= read_after n more) ≡ read) → lines_at w n lines ≡ read
lines_by w n lines next read h each =
    let m = with_next w n lines in
    m.1 ∙ ap (λ (r : Result Next Fault). r >>= read_after n m.0) h ∙ each m.0

-- an expression's line is followed by the lines after it
lines_expr : (w : Bool) (n : ℕ) (lines after : List (List ℕ)) (e : Expression)
    → next_at w n lines ≡ Ok (Next.Expr e after) → lines_at w n lines ≡ with_expr e (lines_at w (n + 1) after)
unfolding next_at lines_at
lines_expr w n (line ∷ tail) after e h =
    let b = bind_ok (line_at n line) (λ read. next_kind w n read.0 read.1 tail) (Next.Expr e after) h in
    let t = tail_is w n b.0.0 b.0.1 tail after e b.2 in
    ap (λ (r : Result Next Fault). r >>= read_after n (lines_at w (n + 1) tail)) h
    ∙ ap (λ (ls : List (List ℕ)). with_expr e (lines_at w (n + 1) ls)) t
lines_expr true n [] after e h = absurd cc
lines_expr false n [] after e h = absurd cc

-- ---- the loop

-- the expressions that were read, and what is read of the lines that are left, are the whole
pub record ReadLines
    (w : Bool) (n : ℕ) (lines : List (List ℕ)) (front : List Expression) (whole : Read) : Type 0 where
  pub same : in_front front (lines_at w n lines) ≡ whole

pub turn_expr
    : {w : Bool} {n : ℕ} {lines after : List (List ℕ)} {e : Expression} {front : List Expression} {whole : Read}
    → ReadLines w n lines front whole → next_at w n lines ≡ Ok (Next.Expr e after)
    → ReadLines w (n + 1) after (front ++ e ∷ []) whole
turn_expr {w = w} {n = n} {lines = lines} {after = after} {e = e} {front = front} so_far h = record {
  same =
      in_front_more front e (lines_at w (n + 1) after)
      ∙ ap (in_front front) (sym (lines_expr w n lines after e h)) ∙ so_far.same;
}

-- an input is read to the end
abbrev query_alone : Result Query Fault → Read
query_alone read = read >>= λ query. Ok ([], Some query)

input_last : {w : Bool} {n : ℕ} {lines words after : List (List ℕ)} {front : List Expression} {whole : Read}
    → ReadLines w n lines front whole → next_at w n lines ≡ Ok (Next.Input words after)
    → whole ≡ in_front front (query_alone (input_at n words after))
input_last {w = w} {n = n} {lines = lines} {words = words} {after = after} {front = front} so_far h =
    let read = query_alone (input_at n words after) in
    sym so_far.same
    ∙ ap (in_front front) (lines_by w n lines (Ok (Next.Input words after)) read h (λ more. refl))

pub turn_input
    : {w : Bool} {n : ℕ} {lines words after : List (List ℕ)} {front : List Expression} {whole : Read} {query : Query}
    → ReadLines w n lines front whole → next_at w n lines ≡ Ok (Next.Input words after)
    → input_at n words after ≡ Ok query → whole ≡ Ok (front, Some query)
turn_input {front = front} {query = query} so_far h i =
    input_last so_far h ∙ ap (λ (r : Result Query Fault). in_front front (query_alone r)) i
    ∙ ap (λ (es : List Expression). Ok (es, Some query)) (append-nil front)

pub turn_input_fails : {w : Bool} {n : ℕ} {lines words after : List (List ℕ)} {front : List Expression} {whole : Read}
    → (fault : ScriptFault) → ReadLines w n lines front whole → next_at w n lines ≡ Ok (Next.Input words after)
    → Fails fault (input_at n words after) → Fails fault whole
turn_input_fails ScriptFault.Memory so_far h i = tt
turn_input_fails {front = front} (ScriptFault.Bad line kind) so_far h i =
    input_last so_far h ∙ ap (λ (r : Result Query Fault). in_front front (query_alone r)) i

pub turn_end : {w : Bool} {n : ℕ} {lines : List (List ℕ)} {front : List Expression} {whole : Read}
    → ReadLines w n lines front whole → next_at w n lines ≡ Ok Next.End → whole ≡ Ok (front, None)
turn_end {w = w} {n = n} {lines = lines} {front = front} so_far h =
    sym so_far.same ∙ ap (in_front front) (lines_by w n lines (Ok Next.End) (Ok ([], None)) h (λ more. refl))
    ∙ ap (λ (es : List Expression). Ok (es, None)) (append-nil front)

pub turn_fails
    : {w : Bool} {n : ℕ} {lines : List (List ℕ)} {front : List Expression} {whole : Read} (fault : ScriptFault)
    → ReadLines w n lines front whole → Fails fault (next_at w n lines) → Fails fault whole
turn_fails ScriptFault.Memory so_far h = tt
turn_fails {w = w} {n = n} {lines = lines} {front = front} (ScriptFault.Bad line kind) so_far h =
    let fault : Fault = record { line = line; kind = kind } in
    sym so_far.same ∙ ap (in_front front) (lines_by w n lines (Err fault) (Err fault) h (λ more. refl))

-- The rows of both directions have the same Unicode word assertions, so both builds have one quit set.
use Rattle.rx_spec.proofs.Prelude.{[], arith, rules, ◌≡◌, ℕ, suc, zero, ◌+◌, ◌-◌, Bool, true, false, ◌||◌, Option, Some}
use Rattle.rx_spec.proofs.Prelude.{None, List, ◌∷◌, ◌++◌, map, length, refl, ap, ap₂, ◌∙◌, common_steps, list_any}
use Rattle.rx_spec.proofs.Prelude.{Expression, mirror, Row, Maker, chained, either, choice, copies, optional, loop}
use Rattle.rx_spec.proofs.Prelude.{repeated, compile, patterns_from, start_of_all, lead_in, nfa_of, read_as}
use Rattle.rx_plan.specs.Plans.{Plan}
use Rattle.rx_spec.proofs.Prelude.{is_unicode_word, or-false}
use Rattle.rx_plan.specs.Plans.{plan_build}
use Rattle.rx_spec.specs.Classes.{looks_for_unicode_word}
use Rattle.rx_spec.specs.declared.Direction.{Direction}
use Rattle.std.proofs.Math.Bool.{or_comm, or_self}

abbrev any_unicode : List Row → Bool
any_unicode rows = list_any looks_for_unicode_word rows

any_append : (xs ys : List Row) → any_unicode (xs ++ ys) ≡ (any_unicode xs || any_unicode ys)
any_append [] ys = refl
any_append (x ∷ xs) ys = grind (arith, common_steps)

-- whether a part's rows have such an assertion, wherever they stand
abbrev Asserts : Maker → Bool → Type 0
Asserts maker b = (base next : ℕ) → any_unicode (maker base next).rows ≡ b

-- a body that is made n times
abbrev some_of : ℕ → Bool → Bool
some_of zero b = false
some_of (suc n) b = b

abbrev rounds_of : ℕ → Option ℕ → Bool → Bool
rounds_of least None b = b
rounds_of least (Some most) b = some_of least b || some_of (most - least) b

-- whether an expression's rows have one
unfoldable unicode_in : Expression → Bool
unicode_in Expression.Empty = false
unicode_in (Expression.Class set) = false
unicode_in (Expression.Look look) = is_unicode_word look
unicode_in (Expression.Concat a b) = unicode_in a || unicode_in b
unicode_in (Expression.Alternate a b) = unicode_in a || unicode_in b
unicode_in (Expression.Repeat least most greedy body) = rounds_of least most (unicode_in body)

unicode_mirror : (e : Expression) → unicode_in (mirror e) ≡ unicode_in e
unfolding unicode_in mirror
unicode_mirror (Expression.Concat a b) =
    ap₂ (λ (x y : Bool). x || y) (unicode_mirror b) (unicode_mirror a) ∙ or_comm (unicode_in b) (unicode_in a)
unicode_mirror (Expression.Alternate a b) = ap₂ (λ (x y : Bool). x || y) (unicode_mirror a) (unicode_mirror b)
unicode_mirror (Expression.Repeat least most greedy body) = ap (rounds_of least most) (unicode_mirror body)
unicode_mirror _ = refl

chained_asserts : (first second : Maker) (a b : Bool) → Asserts first a → Asserts second b
    → Asserts (chained first second) (a || b)
chained_asserts first second a b f s base next = grind (arith, common_steps)

either_asserts : (first second : Maker) (a b : Bool) → Asserts first a → Asserts second b
    → Asserts (either first second) (a || b)
either_asserts first second a b f s base next = grind (arith, common_steps, any_append, or-false)

some_more : (n : ℕ) (b : Bool) → (some_of n b || b) ≡ b
some_more zero b = refl
some_more (suc n) b = or_self b

copies_assert : (body : Maker) (b : Bool) → Asserts body b → (n : ℕ) → Asserts (copies n body) (some_of n b)
unfolding copies
copies_assert body b h zero base next = refl
copies_assert body b h (suc n) base next =
    chained_asserts (copies n body) body (some_of n b) b (copies_assert body b h n) h base next ∙ some_more n b

choice_plain : (greedy : Bool) (a b : ℕ) (rows : List Row) → any_unicode (choice greedy a b ∷ rows) ≡ any_unicode rows
choice_plain true a b rows = refl
choice_plain false a b rows = refl

optional_asserts : (greedy : Bool) (body : Maker) (b : Bool) → Asserts body b → (n : ℕ)
    → Asserts (optional greedy n body) (some_of n b)
unfolding optional
optional_asserts greedy body b h zero base next = refl
optional_asserts greedy body b h (suc n) base next =
    let inner = optional greedy n body base next in
    let round = body (base + length inner.rows) inner.entry in
    let last : List Row = choice greedy round.entry next ∷ [] in
    any_append (inner.rows ++ round.rows) last
    ∙ ap (λ (x : Bool). any_unicode (inner.rows ++ round.rows) || x) (choice_plain greedy round.entry next [])
    ∙ or-false (any_unicode (inner.rows ++ round.rows))
    ∙ any_append inner.rows round.rows
    ∙ ap₂ (λ (x y : Bool). x || y) (optional_asserts greedy body b h n base next)
    (h (base + length inner.rows) inner.entry) ∙ some_more n b

loop_asserts : (greedy : Bool) (body : Maker) (b : Bool) → Asserts body b → Asserts (loop greedy body) b
loop_asserts greedy body b h base next = grind (arith, common_steps)

repeated_asserts : (least : ℕ) (most : Option ℕ) (greedy : Bool) (body : Maker) (b : Bool) → Asserts body b
    → Asserts (repeated least most greedy body) (rounds_of least most b)
repeated_asserts least None greedy body b h base next =
    chained_asserts (copies least body) (loop greedy body) (some_of least b) b (copies_assert body b h least)
    (loop_asserts greedy body b h) base next ∙ some_more least b
repeated_asserts least (Some most) greedy body b h base next =
    grind (arith, common_steps, copies_assert, optional_asserts)

compile_asserts : (e : Expression) → Asserts (compile e) (unicode_in e)
unfolding compile unicode_in
compile_asserts Expression.Empty base next = refl
compile_asserts (Expression.Class set) base next = refl
compile_asserts (Expression.Look look) base next = or-false (is_unicode_word look)
compile_asserts (Expression.Concat a b) base next =
    chained_asserts (compile a) (compile b) (unicode_in a) (unicode_in b) (compile_asserts a)
    (compile_asserts b) base next
compile_asserts (Expression.Alternate a b) base next =
    either_asserts (compile a) (compile b) (unicode_in a) (unicode_in b) (compile_asserts a)
    (compile_asserts b) base next
compile_asserts (Expression.Repeat least most greedy body) base next =
    repeated_asserts least most greedy (compile body) (unicode_in body) (compile_asserts body) base next

patterns_assert : (base k : ℕ) (es : List Expression)
    → any_unicode (patterns_from base k es).rows ≡ list_any unicode_in es
unfolding patterns_from
patterns_assert base k [] = refl
patterns_assert base k (e ∷ es) =
    let part = compile e (base + 1) base in
    any_append part.rows (patterns_from (base + 1 + length part.rows) (k + 1) es).rows
    ∙ ap₂ (λ (x y : Bool). x || y) (compile_asserts e (base + 1) base)
    (patterns_assert (base + 1 + length part.rows) (k + 1) es)

joined_plain : (base : ℕ) (entries : List ℕ) → any_unicode (start_of_all base entries).rows ≡ false
unfolding start_of_all
joined_plain base [] = refl
joined_plain base (entry ∷ []) = refl
joined_plain base (entry ∷ (next ∷ entries)) =
    let others = start_of_all base (next ∷ entries) in
    let last : List Row = Row.Split entry others.entry ∷ [] in
    any_append others.rows last ∙ or-false (any_unicode others.rows) ∙ joined_plain base (next ∷ entries)

lead_in_plain : (b : Bool) (base anchored : ℕ) → any_unicode (lead_in b base anchored).rows ≡ false
lead_in_plain true base anchored = refl
lead_in_plain false base anchored = refl

nfa_asserts : (direction : Direction) (t : ℕ) (utf8 : Bool) (es : List Expression)
    → any_unicode (nfa_of direction t utf8 es).rows ≡ list_any unicode_in (map (read_as direction) es)
unfolding nfa_of
nfa_asserts direction t utf8 es =
    grind (arith, common_steps, any_append, lead_in_plain, or-false, joined_plain, patterns_assert)

read_alike : (es : List Expression)
    → list_any unicode_in (map (read_as Direction.Reverse) es)
    ≡ list_any unicode_in (map (read_as Direction.Forward) es)
read_alike [] = refl
read_alike (e ∷ es) = ap₂ (λ (x y : Bool). x || y) (unicode_mirror e) (read_alike es)

-- both directions have such a row, or neither has
pub unicode_alike : (t : ℕ) (utf8 : Bool) (es : List Expression)
    → list_any looks_for_unicode_word (nfa_of Direction.Reverse t utf8 es).rows
    ≡ list_any looks_for_unicode_word (nfa_of Direction.Forward t utf8 es).rows
unicode_alike t utf8 es = search (rules, nfa_asserts, read_alike)

-- and so one quit set
pub quits_alike : (w : Plan) (es : List Expression)
    → (plan_build w Direction.Reverse es).quit ≡ (plan_build w Direction.Forward es).quit
quits_alike w es = let e = unicode_alike w.line_terminator false es in rw e refl

-- Which patterns the Match rows of an NFA name: those of its list, and no more than have ids.
use Rattle.rx_spec.proofs.Prelude.{rules, common_steps, ◌≡◌, ℕ, zero, suc, ◌+◌, ◌-◌, ◌<◌, ◌≤◌, Bool, true, false}
use Rattle.rx_spec.proofs.Prelude.{Option, Some, None, List, [], ◌∷◌, length, map, subst, arith, length-map, id_count}
use Rattle.rx_spec.proofs.Prelude.{Expression, lead_in, nfa_of, patterns_from, read_as, start_of_all, Row, Maker}
use Rattle.rx_spec.proofs.Prelude.{chained, choice, compile, copies, either, loop, optional, repeated, row_at}
use Rattle.std.specs.List.{AllByRecursion as Every}
use Rattle.rx_spec.specs.declared.Direction.{Direction}
use Rattle.rx_lemmas.proofs.Every.{every-append}
use Rattle.rx_expr.specs.NfaRows.{NamesPatterns}
use Rattle.rx_expr.proofs.PatternRows.{length-entries}

-- a row that matches names one of so many patterns
abbrev pub Names : ℕ → Row → Type 0
Names count (Row.Match pattern) = pattern < count
Names count _ = Unit {0}

pub named_at : (count : ℕ) (rows : List Row) → Every (Names count) rows → (q pattern : ℕ)
    → row_at rows q ≡ Row.Match pattern → pattern < count
named_at count [] named q pattern e = absurd (cc)
named_at count (row ∷ rows) named zero pattern e = subst (Names count) e named.0
named_at count (row ∷ rows) named (suc q) pattern e = named_at count rows named.1 q pattern e

-- ---- the rows of one expression match nothing themselves

choice_named : (count : ℕ) (greedy : Bool) (body next : ℕ) → Names count (choice greedy body next)
choice_named count true body next = tt
choice_named count false body next = tt

abbrev AreNamed : ℕ → Maker → Type 0
AreNamed count maker = (base next : ℕ) → Every (Names count) (maker base next).rows

chained_named : (count : ℕ) (first second : Maker) → AreNamed count first → AreNamed count second
    → AreNamed count (chained first second)
chained_named count first second f s base next = grind (arith, common_steps)

either_named : (count : ℕ) (first second : Maker) → AreNamed count first → AreNamed count second
    → AreNamed count (either first second)
either_named count first second f s base next = grind (arith, common_steps)

copies_named : (count : ℕ) (body : Maker) → AreNamed count body → (n : ℕ) → AreNamed count (copies n body)
unfolding copies
copies_named count body h zero base next = tt
copies_named count body h (suc n) base next =
    chained_named count (copies n body) body (copies_named count body h n) h base next

optional_named : (count : ℕ) (greedy : Bool) (body : Maker) → AreNamed count body → (n : ℕ)
    → AreNamed count (optional greedy n body)
unfolding optional
optional_named count greedy body h zero base next = tt
optional_named count greedy body h (suc n) base next =
    search (rules, every-append, optional_named count greedy body h n, choice_named)

loop_named : (count : ℕ) (greedy : Bool) (body : Maker) → AreNamed count body → AreNamed count (loop greedy body)
loop_named count greedy body h base next = grind (arith, common_steps)

repeated_named : (count least : ℕ) (most : Option ℕ) (greedy : Bool) (body : Maker) → AreNamed count body
    → AreNamed count (repeated least most greedy body)
repeated_named count least None greedy body h = search (rules, chained_named, copies_named, loop_named)
repeated_named count least (Some most) greedy body h = search (rules, chained_named, copies_named, optional_named)

compile_named : (count : ℕ) (e : Expression) → AreNamed count (compile e)
unfolding compile
compile_named count Expression.Empty base next = tt
compile_named count (Expression.Concat a b) base next =
    chained_named count (compile a) (compile b) (compile_named count a) (compile_named count b) base next
compile_named count (Expression.Alternate a b) base next =
    either_named count (compile a) (compile b) (compile_named count a) (compile_named count b) base next
compile_named count (Expression.Repeat least most greedy body) base next =
    repeated_named count least most greedy (compile body) (compile_named count body) base next
compile_named count _ base next = (tt, tt)

-- ---- the rows of an NFA

patterns_named : (count : ℕ) (es : List Expression) (base k : ℕ) → k + length es ≤ count
    → Every (Names count) (patterns_from base k es).rows
unfolding patterns_from
patterns_named count [] base k few = tt
patterns_named count (e ∷ es) base k few =
    let part = compile e (base + 1) base in
    let after = base + 1 + length part.rows in
    let below : k < count = omega arith in
    every-append (Names count) (Row.Match k ∷ part.rows) (patterns_from after (k + 1) es).rows
    (below, compile_named count e (base + 1) base) (patterns_named count es after (k + 1) (omega arith))

start_named : (count base : ℕ) (entries : List ℕ) → Every (Names count) (start_of_all base entries).rows
unfolding start_of_all
start_named count base [] = (tt, tt)
start_named count base (entry ∷ []) = tt
start_named count base (entry ∷ (next ∷ entries)) =
    search (rules, every-append, start_named count base (next ∷ entries))

lead_in_named : (count : ℕ) (at_edge : Bool) (base anchored : ℕ)
    → Every (Names count) (lead_in at_edge base anchored).rows
lead_in_named count true base anchored = tt
lead_in_named count false base anchored = (tt, (tt, tt))

nfa_named : (direction : Direction) (line_terminator : ℕ) (is_utf8 : Bool) (es : List Expression)
    → Every (Names (length es)) (nfa_of direction line_terminator is_utf8 es).rows
unfolding nfa_of
nfa_named direction line_terminator is_utf8 es =
    let few : 0 + length (map (read_as direction) es) ≤ length es = omega (arith, length-map es (read_as direction)) in
    search (rules, every-append, patterns_named, start_named, lead_in_named)

-- it has a start for each pattern
length-start_patterns : (direction : Direction) (line_terminator : ℕ) (is_utf8 : Bool) (es : List Expression)
    → length (nfa_of direction line_terminator is_utf8 es).start_patterns ≡ length es
unfolding nfa_of
length-start_patterns direction line_terminator is_utf8 es = length-entries direction es 0 0

pub nfa_names_patterns : (direction : Direction) (line_terminator : ℕ) (is_utf8 : Bool) (es : List Expression)
    → length es ≤ id_count
    → NamesPatterns (length (nfa_of direction line_terminator is_utf8 es).start_patterns)
    (nfa_of direction line_terminator is_utf8 es).rows
nfa_names_patterns direction line_terminator is_utf8 es few =
    rw (length-start_patterns direction line_terminator is_utf8 es)
    record { few = few; named = named_at (length es) _ (nfa_named direction line_terminator is_utf8 es) }

-- the NFAs of one row
pub match_names_one : NamesPatterns 1 (Row.Match 0 ∷ [])
match_names_one = grind (arith, common_steps)

pub fail_names_none : NamesPatterns 0 (Row.Fail ∷ [])
fail_names_none = grind (arith, common_steps)

-- Laws of the rows of an NFA: Thompson's construction, form by form, and how many rows it makes.
use Rattle.std.specs.Prelude.{◌≡◌, ℕ, suc, ◌+◌, ◌-◌, ◌*◌, Bool, true, false, Option, Some, None, List, [], ◌∷◌, ◌++◌}
use Rattle.std.specs.Prelude.{length, sum_by}
use Rattle.rx_spec.specs.Expressions.{Expression}
use Rattle.rx_spec.specs.Rows.{Row, Part, choice, compile, rows_count}
use Rattle.rx_spec.specs.Nfas.{patterns_from, start_of_all}
use Rattle.rx_laws.specs.EndsLaws.{lowered}
use Rattle.rx_spec.specs.declared.Look.{Look}

-- the rows are made for an entry after them, `next`, and numbered from `base` on
abbrev pub part : ℕ → List Row → Part
part entry rows = record { entry = entry; rows = rows }

abbrev pub RowsOfEmpty : Type 0
RowsOfEmpty = (base next : ℕ) → compile Expression.Empty base next ≡ part next []

abbrev pub RowsOfClass : Type 0
RowsOfClass = (set base next : ℕ) → compile (Expression.Class set) base next ≡ part base (Row.Bytes set next ∷ [])

abbrev pub RowsOfAssertion : Type 0
RowsOfAssertion = (look : Look) (base next : ℕ)
    → compile (Expression.Look look) base next ≡ part base (Row.Look look next ∷ [])

-- the second first, and then the first, with the second's entry after it
abbrev pub RowsOfConcat : Type 0
RowsOfConcat = (a b : Expression) (base next : ℕ) → compile (Expression.Concat a b) base next ≡
    (let second = compile b base next in
    let first = compile a (base + length second.rows) second.entry in
    part first.entry (second.rows ++ first.rows))

-- the first, the second, and a Split of the two
abbrev pub RowsOfAlternate : Type 0
RowsOfAlternate = (a b : Expression) (base next : ℕ) → compile (Expression.Alternate a b) base next ≡
    (let first = compile a base next in
    let second = compile b (base + length first.rows) next in
    part (base + length first.rows + length second.rows)
    (first.rows ++ second.rows ++ (Row.Split first.entry second.entry ∷ [])))

-- with a least number above 0: the rest, with both bounds one lower, and then a copy of the body before it
abbrev pub RowsOfNeededRound : Type 0
RowsOfNeededRound = (n : ℕ) (most : Option ℕ) (greedy : Bool) (body : Expression) (base next : ℕ)
    → compile (Expression.Repeat (suc n) most greedy body) base next ≡
    (let rest = compile (Expression.Repeat n (lowered most) greedy body) base next in
    let copy = compile body (base + length rest.rows) rest.entry in
    part copy.entry (rest.rows ++ copy.rows))

-- up to no rounds: nothing
abbrev pub RowsOfNoRounds : Type 0
RowsOfNoRounds = (greedy : Bool) (body : Expression) (base next : ℕ)
    → compile (Expression.Repeat 0 (Some 0) greedy body) base next ≡ part next []

-- up to one round more: the other rounds, the body before them, and a Split of that body and `next`
abbrev pub RowsOfOptionalRound : Type 0
RowsOfOptionalRound = (n : ℕ) (greedy : Bool) (body : Expression) (base next : ℕ)
    → compile (Expression.Repeat 0 (Some (suc n)) greedy body) base next ≡
    (let others = compile (Expression.Repeat 0 (Some n) greedy body) base next in
    let round = compile body (base + length others.rows) others.entry in
    part (base + length others.rows + length round.rows)
    (others.rows ++ round.rows ++ (choice greedy round.entry next ∷ [])))

-- without an end: a Split of the body and `next`, and the body, which leads back to the Split
abbrev pub RowsOfLoop : Type 0
RowsOfLoop = (greedy : Bool) (body : Expression) (base next : ℕ)
    → compile (Expression.Repeat 0 None greedy body) base next ≡
    (let round = compile body (base + 1) base in
    part base (choice greedy round.entry next ∷ round.rows))

-- a greedy Split has the body first, a lazy one what comes after it
abbrev pub SplitOfGreedy : Type 0
SplitOfGreedy = (body next : ℕ) → choice true body next ≡ Row.Split body next

abbrev pub SplitOfLazy : Type 0
SplitOfLazy = (body next : ℕ) → choice false body next ≡ Row.Split next body

-- An expression's rows are as many as its count says, wherever they stand.
abbrev pub RowsCounted : Type 0
RowsCounted = (e : Expression) (base next : ℕ) → length (compile e base next).rows ≡ rows_count e

abbrev pub CountOfEmpty : Type 0
CountOfEmpty = rows_count Expression.Empty ≡ 0

abbrev pub CountOfClass : Type 0
CountOfClass = (set : ℕ) → rows_count (Expression.Class set) ≡ 1

abbrev pub CountOfAssertion : Type 0
CountOfAssertion = (look : Look) → rows_count (Expression.Look look) ≡ 1

abbrev pub CountOfConcat : Type 0
CountOfConcat = (a b : Expression) → rows_count (Expression.Concat a b) ≡ rows_count a + rows_count b

abbrev pub CountOfAlternate : Type 0
CountOfAlternate = (a b : Expression) → rows_count (Expression.Alternate a b) ≡ rows_count a + rows_count b + 1

abbrev pub CountOfBounded : Type 0
CountOfBounded = (least most : ℕ) (greedy : Bool) (body : Expression)
    → rows_count (Expression.Repeat least (Some most) greedy body)
    ≡ least * rows_count body + (most - least) * (rows_count body + 1)

abbrev pub CountOfUnbounded : Type 0
CountOfUnbounded = (least : ℕ) (greedy : Bool) (body : Expression)
    → rows_count (Expression.Repeat least None greedy body) ≡ (least + 1) * rows_count body + 1

-- a pattern's match row, its expression's rows before it, and then the other patterns
abbrev pub RowsOfPattern : Type 0
RowsOfPattern = (base k : ℕ) (e : Expression) (es : List Expression) → patterns_from base k (e ∷ es) ≡
    (let own = compile e (base + 1) base in
    let others = patterns_from (base + 1 + length own.rows) (k + 1) es in
    record { entries = own.entry ∷ others.entries; rows = Row.Match k ∷ (own.rows ++ others.rows) })

-- so all patterns have one row more each than their expressions
abbrev pub PatternsCounted : Type 0
PatternsCounted = (base k : ℕ) (es : List Expression)
    → length (patterns_from base k es).rows ≡ sum_by (λ e. rows_count e + 1) es

-- the anchored start: a Fail row for no pattern, the entry of a single one, and else Splits, one fewer
-- than patterns, made from the last pair on
abbrev pub StartOfNone : Type 0
StartOfNone = (base : ℕ) → start_of_all base [] ≡ part base (Row.Fail ∷ [])

abbrev pub StartOfOne : Type 0
StartOfOne = (base entry : ℕ) → start_of_all base (entry ∷ []) ≡ part entry []

abbrev pub StartOfMore : Type 0
StartOfMore = (base entry next : ℕ) (entries : List ℕ) → start_of_all base (entry ∷ (next ∷ entries)) ≡
    (let others = start_of_all base (next ∷ entries) in
    part (base + length entries) (others.rows ++ (Row.Split entry others.entry ∷ [])))

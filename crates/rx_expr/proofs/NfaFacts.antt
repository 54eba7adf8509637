-- What an NFA remembers of its rows: the facts that they ask for, their assertions and which bytes they tell apart,
-- gathered row by row.
use Rattle.rx_spec.proofs.Prelude.{arith, ◌≡◌, ℕ, ◌+◌, ◌<◌, ◌≤◌, List, [], ◌∷◌, length, map, get_or, drop, refl}
use Rattle.rx_spec.proofs.Prelude.{common_steps, or_assoc, Facts, either_of, row_reads, facts_kept, no_facts, AllNext}
use Rattle.rx_spec.proofs.Prelude.{IsShallow, Short}
use Rattle.rx_spec.specs.Rows as rows
use Rattle.rx_expr.specs.Nfa.{row_of}
use Rattle.rx_expr.specs.declared.thompson.nfa.Row.{Row}

-- ---- the facts that are asked for

abbrev asked : List Row → Facts
asked rows = facts_kept (map row_of rows)

either_of-assoc : (x y z : Facts) → either_of (either_of x y) z ≡ either_of x (either_of y z)
either_of-assoc x y z = simp or_assoc

asked-cons : (row : Row) (rows : List Row) → asked (row ∷ rows) ≡ either_of (row_reads (row_of row)) (asked rows)
unfolding facts_kept
asked-cons row rows = refl

asked-nil : asked [] ≡ no_facts
unfolding facts_kept
asked-nil = refl

pub asked_more : (rows : List Row) (i : ℕ) (f : Facts) {row : Row} {read more whole : Facts} → i < length rows
    → row ≡ get_or rows i row → either_of f (asked (drop i rows)) ≡ whole → read ≡ row_reads (row_of row)
    → more ≡ either_of f read → either_of more (asked (drop (i + 1) rows)) ≡ whole
asked_more rows i f {row} lt is before reads joined = grind (arith, common_steps, either_of-assoc, asked-cons)

pub asked_last : (rows : List Row) (i : ℕ) (f : Facts) {whole : Facts} → length rows ≤ i
    → either_of f (asked (drop i rows)) ≡ whole → f ≡ whole
asked_last rows i f le before = grind (arith, common_steps, asked-nil)

-- ---- an NFA of one row

-- a row that leads nowhere without a byte
pub shallow_row : (row : rows.Row) → ((P : ℕ → Type 0) → AllNext P row) → IsShallow (row ∷ [])
unfolding Short
shallow_row row ends = grind (arith, common_steps)

-- The NFA that the steps of the compiler make: the rows of the patterns, then their joined start, then the lead-in.
use Rattle.rx_spec.proofs.Prelude.{common_steps, ◌≡◌, ℕ, ◌+◌, ◌^◌, ◌≤◌, ◌==◌, Bool, true, false, List, length, map, min}
use Rattle.rx_spec.proofs.Prelude.{refl, arith, list_all-map, list_all, list_any, id_count, Expression, min_len}
use Rattle.rx_spec.proofs.Prelude.{lead_in, read_as, nfa_of, begins_with_edge}
use Rattle.rx_spec.specs.declared.Direction.{Direction}
use Rattle.rx_expr.specs.Compiles.{Adds, AddsJoined, AddsPatterns, Fits, all_at_edge, patterns_count, joined_count}
use Rattle.rx_expr.specs.Compiles.{lead_count}
use Rattle.rx_expr.specs.Nfa.{row_of}
use Rattle.rx_expr.specs.Settings.{Asked, settled}
use Rattle.rx_expr.specs.declared.thompson.nfa.Row.{Row}
use Rattle.rx_expr.proofs.PatternRows.{length-patterns, length-entries}
use Rattle.rx_expr.proofs.JoinedStarts.{length-start_of_all}

-- the same test of the expressions as they are read
edge_of : (direction : Direction) (es : List Expression)
    → list_all (begins_with_edge direction) (map (read_as direction) es) ≡ all_at_edge direction es
edge_of direction es = list_all-map (begins_with_edge direction) (read_as direction) es

-- ---- how many rows it has

length-lead_in : (at_edge : Bool) (base anchored : ℕ) → length (lead_in at_edge base anchored).rows ≡ lead_count at_edge
length-lead_in true base anchored = refl
length-lead_in false base anchored = refl

pub length-nfa : (direction : Direction) (terminator : ℕ) (utf8 : Bool) (es : List Expression)
    → length (nfa_of direction terminator utf8 es).rows
    ≡ patterns_count es + joined_count (length es) + lead_count (all_at_edge direction es)
unfolding nfa_of
length-nfa direction terminator utf8 es =
    grind (arith, common_steps, length-lead_in, edge_of, length-start_of_all, length-entries, length-patterns)

-- what fits, part by part
pub rows_fit : (a : Asked) (es : List Expression) {direction : Direction} → direction ≡ (settled a).direction
    → Fits a es → patterns_count es + joined_count (length es) + lead_count (all_at_edge direction es) ≤ id_count
rows_fit a es is fits = grind (arith, common_steps, length-nfa)

-- both counts go up to a limit, and so does their sum
pub capped : (p j l : ℕ) {ps ss r n : ℕ} → ps ≡ min p (2 ^ 31) → ss ≡ min j (2 ^ 31) + l → r ≡ min (ps + ss) (2 ^ 31)
    → n ≡ p + j + l → r ≡ min n (2 ^ 31)
capped p j l hp hs hr hn = omega arith

-- ---- what it is

-- what the steps added, one after another, and where the NFA is entered
pub record AddsAll (direction : Direction) (es : List Expression) (first mid last : List Row) (starts : List ℕ)
    (anchored unanchored : ℕ) : Type 0 where
  pub patterns : AddsPatterns direction es first starts
  pub joined : AddsJoined starts first mid anchored
  pub led : Adds (lead_in (all_at_edge direction es)) mid last anchored unanchored

pub adds_all : {direction : Direction} {es : List Expression} {first mid last : List Row} {starts given : List ℕ}
    {anchored unanchored : ℕ} {at_edge : Bool} → AddsPatterns direction es first starts → given ≡ starts
    → AddsJoined given first mid anchored → at_edge ≡ all_at_edge direction es
    → Adds (lead_in at_edge) mid last anchored unanchored
    → AddsAll direction es first mid last starts anchored unanchored
adds_all {first = first} {mid = mid} {anchored = anchored} patterns same joined edge led = grind (arith, common_steps)

pub nfa_made : {direction : Direction} {es : List Expression} {first mid last : List Row} {starts : List ℕ}
    {anchored unanchored : ℕ} {has_empty : Bool} (terminator : ℕ) (utf8 : Bool)
    → AddsAll direction es first mid last starts anchored unanchored → has_empty ≡ list_any (λ e. min_len e == 0) es
    → record {
      rows = map row_of last;
      start_anchored = anchored;
      start_unanchored = unanchored;
      start_patterns = starts;
      direction = direction;
      line_terminator = terminator;
      has_empty = has_empty;
      is_utf8 = utf8;
    } ≡ nfa_of direction terminator utf8 es
unfolding nfa_of
nfa_made {direction} {es} {first} {mid} {last} terminator utf8 steps empty = grind (arith, common_steps, edge_of)

pub nfa_same : {r s : Direction} {t u : ℕ} {v w : Bool} (es : List Expression) → r ≡ s → t ≡ u → v ≡ w
    → nfa_of r t v es ≡ nfa_of s u w es
nfa_same es d t u = λ i. nfa_of (d i) (t i) (u i) es

-- What the start rows of an NFA give, and how deep all its rows are.
use Rattle.rx_spec.proofs.Prelude.{common_steps, [], ◌≡◌, ℕ, zero, suc, ◌+◌, ◌*◌, ◌<◌, ◌≤◌, Bool, true, false, List}
use Rattle.rx_spec.proofs.Prelude.{◌∷◌, ◌++◌, length, refl, sym, subst, arith, le_refl, length-append, ⊎_elim, cases_lt}
use Rattle.rx_spec.proofs.Prelude.{mul-le, list_all, all_bytes, Expression, IsLoopSafe, Row, Part, compile, rows_count}
use Rattle.rx_spec.proofs.Prelude.{patterns_from, start_of_all, lead_in, begins_with_edge, row_at, Short}
use Rattle.std.specs.List.{AllByRecursion as Every}
use Rattle.rx_spec.specs.Nfas.{Patterns}
use Rattle.rx_spec.specs.declared.Direction.{Direction}
use Rattle.rx_lemmas.proofs.Rows.{rows_counted}
use Rattle.rx_lemmas.proofs.RowPlaces.{Stands, stands-left, stands-right, stands_all, EachFrom, each-append}
use Rattle.rx_lemmas.proofs.RowPlaces.{each-weaker, each-at}
use Rattle.rx_lemmas.proofs.ShortPaths.{short-more}
use Rattle.rx_lemmas.proofs.PathLengths.{square_le, short_at, compile_lengthens}

-- The parts of an NFA of these expressions, as they are read: of the patterns, of the anchored start,
-- and of the unanchored one.
abbrev pub pattern_part : List Expression → Patterns
pattern_part es = patterns_from 0 0 es

abbrev pub anchored_part : List Expression → Part
anchored_part es = start_of_all (length (pattern_part es).rows) (pattern_part es).entries

abbrev pub unanchored_part : Direction → List Expression → Part
unanchored_part direction es =
    lead_in (list_all (begins_with_edge direction) es) (length (pattern_part es).rows + length (anchored_part es).rows)
    (anchored_part es).entry

abbrev pub nfa_rows : Direction → List Expression → List Row
nfa_rows direction es = (pattern_part es).rows ++ (anchored_part es).rows ++ (unanchored_part direction es).rows

abbrev pub depth_of : List Row → ℕ
depth_of rows = length rows * length rows + 1

row_past : (rows : List Row) (q : ℕ) → length rows ≤ q → row_at rows q ≡ Row.Fail
row_past [] q h = refl
row_past (row ∷ rows) zero h = absurd (omega arith)
row_past (row ∷ rows) (suc q) h = row_past rows q (omega arith)

stands_at : (rows : List Row) (a b : ℕ) (xs : List Row) → a ≡ b → Stands rows a xs → Stands rows b xs
stands_at rows a b xs e h = subst (λ q. Stands rows q xs) e h

each_at : (rows : List Row) (a b : ℕ) {n m : ℕ} (xs : List Row) → a ≡ b → n ≤ m
    → EachFrom (λ q. Short rows n q) a xs → EachFrom (λ q. Short rows m q) b xs
each_at rows a b {n} {m} xs e le h = grind (arith, common_steps, each-weaker, short-more)

-- Depths: each entry of a pattern by the number of the patterns' rows, each row by its square.
module _ (rows : List Row) where
  abbrev DeepFor : ℕ → ℕ → Type 0
  DeepFor n q = Short rows n q

  pattern_depths : (es : List Expression) → Every IsLoopSafe es → (base k m : ℕ)
      → length (patterns_from base k es).rows ≤ m → Stands rows base (patterns_from base k es).rows
      → Every (DeepFor m) (patterns_from base k es).entries
      × EachFrom (DeepFor (m * m + 1)) base (patterns_from base k es).rows
  unfolding patterns_from
  pattern_depths [] safe base k m le stands = (tt, tt)
  pattern_depths (e ∷ es) safe base k m le stands =
      let part = compile e (base + 1) base in
      let others = patterns_from (base + 1 + length part.rows) (k + 1) es in
      let c = rows_count e in
      let counted = rows_counted e (base + 1) base in
      let total = length-append (Row.Match k ∷ part.rows) others.rows in
      let front = stands-left rows base (Row.Match k ∷ part.rows) others.rows stands in
      let back = stands-right rows base (Row.Match k ∷ part.rows) others.rows stands in
      let place : base + suc (length part.rows) ≡ base + 1 + length part.rows = omega arith in
      let accept : Short rows 1 base = short_at rows 0 base (Row.Match k) front.0 tt in
      let sinks = (compile_lengthens rows e safe.0).0 in
      let rest = pattern_depths es safe.1 (base + 1 + length part.rows) (k + 1) m (omega arith)
      (subst (λ b. Stands rows b others.rows) place back) in
      let few : c ≤ m = omega arith in
      let square : c * c ≤ m * m = mul-le c c m m few few in
      let entry = sinks.entry (base + 1) base 1 front.1 accept in
      let inner = each-weaker (DeepFor (1 + c * c)) (DeepFor (m * m + 1)) (base + 1) part.rows
      (λ q h. short-more rows (1 + c * c) (m * m + 1) q (omega arith) h)
      (sinks.each (base + 1) base 1 front.1 accept) in (
        (short-more rows (1 + c) m part.entry (omega arith) entry, rest.0),
        each-append (DeepFor (m * m + 1)) base (Row.Match k ∷ part.rows) others.rows
            (short-more rows 1 (m * m + 1) base (omega arith) accept, inner)
            (subst (λ b. EachFrom (DeepFor (m * m + 1)) b others.rows) (sym place) rest.1),
      )

  split_deep : (base first second n : ℕ) → row_at rows base ≡ Row.Split first second → Short rows n first
      → Short rows n second → Short rows (n + 1) base
  split_deep base first second n e h k = short_at rows n base (Row.Split first second) e (h, k)

  joined_depths : (m : ℕ) (entries : List ℕ) (base : ℕ) → Every (DeepFor m) entries
      → Stands rows base (start_of_all base entries).rows
      → Short rows (m + length (start_of_all base entries).rows) (start_of_all base entries).entry
      × EachFrom (DeepFor (m + length (start_of_all base entries).rows)) base (start_of_all base entries).rows
  unfolding start_of_all
  joined_depths m [] base h stands = grind (arith, common_steps, short_at)
  joined_depths m (entry ∷ []) base h stands = (short-more rows m (m + 0) entry (omega arith) h.0, tt)
  joined_depths m (entry ∷ (next ∷ entries)) base h stands =
      let others = start_of_all base (next ∷ entries) in
      let last : List Row = Row.Split entry others.entry ∷ [] in
      let n = length others.rows in
      let ih = joined_depths m (next ∷ entries) base h.1 (stands-left rows base others.rows last stands) in
      let at = stands-right rows base others.rows last stands in
      let total = length-append others.rows last in
      let all = m + length (others.rows ++ last) in
      let split = split_deep (base + n) entry others.entry (m + n) at.0
      (short-more rows m (m + n) entry (omega arith) h.0) ih.0 in
      let deep = short-more rows (m + n + 1) all (base + n) (omega arith) split in (
        deep,
        each-append (DeepFor all) base others.rows last
            (each-weaker (DeepFor (m + n)) (DeepFor all) base others.rows
            (λ q k. short-more rows (m + n) all q (omega arith) k) ih.1)
            (deep, tt),
      )

  lead_depths : (edge : Bool) (base anchored m : ℕ) → Stands rows base (lead_in edge base anchored).rows
      → Short rows m anchored
      → Short rows (m + length (lead_in edge base anchored).rows) (lead_in edge base anchored).entry
      × EachFrom (DeepFor (m + length (lead_in edge base anchored).rows)) base (lead_in edge base anchored).rows
  lead_depths true base anchored m stands h = (short-more rows m (m + 0) anchored (omega arith) h, tt)
  lead_depths false base anchored m stands h =
      let any = short_at rows 0 (base + 1) (Row.Bytes all_bytes base) stands.1.0 tt in
      let split = split_deep base anchored (base + 1) (m + 1) stands.0
      (short-more rows m (m + 1) anchored (omega arith) h) (short-more rows 1 (m + 1) (base + 1) (omega arith) any) in
      let all = m + 2 in (
        short-more rows (m + 1 + 1) all base (omega arith) split,
        (
          short-more rows (m + 1 + 1) all base (omega arith) split,
          (short-more rows 1 all (base + 1) (omega arith) any, tt),
        ),
      )

  past_deep : (q n : ℕ) → length rows ≤ q → Short rows (n + 1) q
  past_deep q n h = short_at rows n q Row.Fail (row_past rows q h) tt

-- Every row of an NFA is no deeper than the square of their number, and one more.
pub nfa_deep : (direction : Direction) (es : List Expression) → Every IsLoopSafe es → (q : ℕ)
    → Short (nfa_rows direction es) (depth_of (nfa_rows direction es)) q
nfa_deep direction es safe q =
    let rows = nfa_rows direction es in
    let ps = pattern_part es in
    let a = anchored_part es in
    let u = unanchored_part direction es in
    let n = length rows in
    let all = depth_of rows in
    let stands = stands_all rows in
    let front = stands-left rows 0 (ps.rows ++ a.rows) u.rows stands in
    let total = length-append (ps.rows ++ a.rows) u.rows in
    let inner = length-append ps.rows a.rows in
    let square = square_le n in
    let p = pattern_depths rows es safe 0 0 (length ps.rows) (le_refl (length ps.rows))
    (stands-left rows 0 ps.rows a.rows front) in
    let j = joined_depths rows (length ps.rows) ps.entries (length ps.rows) p.0
    (stands_at rows (0 + length ps.rows) (length ps.rows) a.rows (omega arith)
    (stands-right rows 0 ps.rows a.rows front)) in
    let base = length ps.rows + length a.rows in
    let l = lead_depths rows (list_all (begins_with_edge direction) es) base a.entry base
    (stands_at rows (0 + length (ps.rows ++ a.rows)) base u.rows (omega arith)
    (stands-right rows 0 (ps.rows ++ a.rows) u.rows stands)) j.0 in
    let less : length ps.rows ≤ n = omega arith in
    let few : length ps.rows * length ps.rows ≤ n * n = mul-le (length ps.rows) (length ps.rows) n n less less in
    let each : EachFrom (λ x. Short rows all x) 0 rows =
    each-append (λ x. Short rows all x) 0 (ps.rows ++ a.rows) u.rows
    (each-append (λ x. Short rows all x) 0 ps.rows a.rows
    (each-weaker (λ x. Short rows (length ps.rows * length ps.rows + 1) x) (λ x. Short rows all x) 0 ps.rows
    (λ x h. short-more rows (length ps.rows * length ps.rows + 1) all x (omega arith) h) p.1)
    (each_at rows (length ps.rows) (0 + length ps.rows) a.rows (omega arith)
    (omega arith) j.1))
    (each_at rows base (0 + length (ps.rows ++ a.rows)) u.rows (omega arith)
    (omega arith) l.1) in
    ⊎_elim (λ (within : q < n). each-at (λ x. Short rows all x) 0 rows each q (omega arith) (omega arith))
    (λ (past : n ≤ q). past_deep rows q (n * n) past) (cases_lt q n)

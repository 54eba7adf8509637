-- Paths of an expression's rows that read nothing are no longer than the square of the number of rows.
use Rattle.rx_spec.proofs.Prelude.{common_steps, [], ◌≡◌, ℕ, zero, suc, ◌+◌, ◌-◌, ◌*◌, ◌<◌, ◌≤◌, Bool, true, false}
use Rattle.rx_spec.proofs.Prelude.{Option, Some, None, List, ◌∷◌, ◌++◌, length, subst, arith, length-append, ◌⊎◌, inl}
use Rattle.rx_spec.proofs.Prelude.{inr, ⊎_elim, Expression, min_len, IsLoopSafe, IsBounded, Row, Maker, straight}
use Rattle.rx_spec.proofs.Prelude.{row_to, chained, either, choice, copies, optional, loop, repeated, compile}
use Rattle.rx_spec.proofs.Prelude.{repeated_count, rows_count, row_at, AllNext, Short}
use Rattle.rx_spec.specs.declared.Look.{Look}
use Rattle.rx_lemmas.proofs.RowPlaces.{Stands, stands-left, stands-right, EachFrom, each-append, each-weaker}
use Rattle.rx_lemmas.proofs.ShortPaths.{short-more}

pub square_le : (n : ℕ) → n ≤ n * n
square_le zero = omega arith
square_le (suc n) = omega arith

-- a row's paths are one step longer than those of the rows to which it leads
pub short_at : (rows : List Row) (n q : ℕ) (row : Row) → row_at rows q ≡ row → AllNext (λ p. Short rows n p) row
    → Short rows (n + 1) q
unfolding Short
short_at rows n q row e h = grind (arith, common_steps)

factors : (m n : ℕ) → 0 < m * n → (0 < m) × (0 < n)
factors zero n h = absurd (omega arith)
factors (suc m) zero h = absurd (omega arith)
factors (suc m) (suc n) h = (omega arith, omega arith)

either_above : (m n : ℕ) → 0 < m + n → (0 < m) ⊎ (0 < n)
either_above zero n h = inr (omega arith)
either_above (suc m) n h = inl (omega arith)

module _ (rows : List Row) where
  -- Paths from the entry are longer than those from what comes after by at most the number of rows, and those
  -- from each row by its square.
  pub record Lengthens (maker : Maker) (count : ℕ) : Type 0 where
    pub entry : (base next n : ℕ) → Stands rows base (maker base next).rows → Short rows n next
        → Short rows (n + count) (maker base next).entry
    pub each : (base next n : ℕ) → Stands rows base (maker base next).rows → Short rows n next
        → EachFrom (λ q. Short rows (n + count * count) q) base (maker base next).rows

  -- Whatever comes after, paths from the entry are no longer than there are rows: it isn't reached without a byte.
  pub record Stops (maker : Maker) (count : ℕ) : Type 0 where
    pub entry : (base next : ℕ) → Stands rows base (maker base next).rows → Short rows count (maker base next).entry

  more : (q n m : ℕ) → Short rows n q → n ≤ m → Short rows m q
  more q n m h le = short-more rows n m q le h

  each_more : (base : ℕ) (xs : List Row) (n m : ℕ) → EachFrom (λ q. Short rows n q) base xs → n ≤ m
      → EachFrom (λ q. Short rows m q) base xs
  each_more base xs n m h le = grind (arith, common_steps, each-weaker, short-more)

  -- a row that stands after others
  last_short : (base n q : ℕ) (front : List Row) (row : Row) → Stands rows base (front ++ (row ∷ []))
      → base + length front ≡ q → AllNext (λ p. Short rows n p) row → Short rows (n + 1) q
  last_short base n q front row stands e h = grind (arith, common_steps, short_at, stands-right)

  each_last : (base n q : ℕ) (front : List Row) (row : Row) → EachFrom (λ p. Short rows n p) base front
      → q ≡ base + length front → Short rows n q → EachFrom (λ p. Short rows n p) base (front ++ (row ∷ []))
  each_last base n q front row h e k = grind (arith, common_steps, each-append)

  both_next : (greedy : Bool) (body next n : ℕ) → Short rows n body → Short rows n next
      → AllNext (λ p. Short rows n p) (choice greedy body next)
  both_next true body next n h k = (h, k)
  both_next false body next n h k = (k, h)

  -- ---- the kinds of part

  straight_lengthens : Lengthens straight 0
  straight_lengthens = grind (arith, common_steps)

  class_lengthens : (set : ℕ) → Lengthens (row_to (Row.Bytes set)) 1
  class_lengthens set = grind (arith, common_steps, short_at)

  class_stops : (set : ℕ) → Stops (row_to (Row.Bytes set)) 1
  class_stops set =
      record { entry = λ base next stands. short_at rows 0 base (Row.Bytes set next) stands.0 tt }

  look_lengthens : (look : Look) → Lengthens (row_to (Row.Look look)) 1
  look_lengthens look = grind (arith, common_steps, short_at)

  chained_lengthens : {first second : Maker} {c d : ℕ} → Lengthens first c → Lengthens second d
      → Lengthens (chained first second) (c + d)
  chained_lengthens {first} {second} {c} {d} f s = record {
    entry = λ base next n stands h.
        let after = second base next in
        let before = first (base + length after.rows) after.entry in
        more before.entry (n + d + c) (n + (c + d))
        (f.entry (base + length after.rows) after.entry (n + d) (stands-right rows base after.rows before.rows stands)
        (s.entry base next n (stands-left rows base after.rows before.rows stands) h)) (omega arith);
    each = λ base next n stands h.
        let after = second base next in
        let before = first (base + length after.rows) after.entry in
        let left = stands-left rows base after.rows before.rows stands in
        let right = stands-right rows base after.rows before.rows stands in
        let all = n + (c + d) * (c + d) in
        each-append (λ q. Short rows all q) base after.rows before.rows
        (each_more base after.rows (n + d * d) all (s.each base next n left h) (omega arith))
        (each_more (base + length after.rows) before.rows (n + d + c * c) all
        (f.each (base + length after.rows) after.entry (n + d) right (s.entry base next n left h))
        (omega (arith, square_le d)));
  }

  module _ {first second : Maker} {c d : ℕ} (f : Lengthens first c) (s : Lengthens second d) where
    either_split : (base next n : ℕ) → Stands rows base (either first second base next).rows → Short rows n next
        → Short rows (n + (c + d + 1)) (either first second base next).entry
    either_split base next n stands h =
        let a = first base next in
        let b = second (base + length a.rows) next in
        let front = stands-left rows base (a.rows ++ b.rows) (Row.Split a.entry b.entry ∷ []) stands in
        let q = base + length a.rows + length b.rows in
        let left = f.entry base next n (stands-left rows base a.rows b.rows front) h in
        let right = s.entry (base + length a.rows) next n (stands-right rows base a.rows b.rows front) h in
        more q (n + c + d + 1) (n + (c + d + 1))
        (last_short base (n + c + d) q (a.rows ++ b.rows) (Row.Split a.entry b.entry) stands
        (omega (arith, length-append a.rows b.rows))
        (more a.entry (n + c) (n + c + d) left (omega arith), more b.entry (n + d) (n + c + d) right (omega arith)))
        (omega arith)

    either_lengthens : Lengthens (either first second) (c + d + 1)
    either_lengthens = record {
      entry = either_split;
      each = λ base next n stands h.
          let a = first base next in
          let b = second (base + length a.rows) next in
          let front = stands-left rows base (a.rows ++ b.rows) (Row.Split a.entry b.entry ∷ []) stands in
          let left = stands-left rows base a.rows b.rows front in
          let right = stands-right rows base a.rows b.rows front in
          let q = base + length a.rows + length b.rows in
          let all = n + (c + d + 1) * (c + d + 1) in
          each_last base all q (a.rows ++ b.rows) (Row.Split a.entry b.entry)
          (each-append (λ q. Short rows all q) base a.rows b.rows
          (each_more base a.rows (n + c * c) all (f.each base next n left h) (omega arith))
          (each_more (base + length a.rows) b.rows (n + d * d) all (s.each (base + length a.rows) next n right h)
          (omega arith)))
          (omega (arith, length-append a.rows b.rows))
          (more q (n + (c + d + 1)) all (either_split base next n stands h) (omega arith));
    }

  copies_lengthen : {body : Maker} {c : ℕ} → Lengthens body c → (n : ℕ) → Lengthens (copies n body) (n * c)
  unfolding copies
  copies_lengthen {c = c} h zero =
      let none : 0 ≡ 0 * c = omega arith in
      subst (λ m. Lengthens straight m) none straight_lengthens
  copies_lengthen {body} {c} h (suc n) =
      let one_more : n * c + c ≡ suc n * c = omega arith in
      subst (λ m. Lengthens (chained (copies n body) body) m) one_more (chained_lengthens (copies_lengthen h n) h)

  module _ (greedy : Bool) {body : Maker} {c : ℕ} (s : Lengthens body c) where
    module _ (m i : ℕ) (o : Lengthens (optional greedy m body) i) where
      optional_split : (base next n : ℕ) → Stands rows base (optional greedy (suc m) body base next).rows
          → Short rows n next → Short rows (n + (i + c + 1)) (optional greedy (suc m) body base next).entry
      unfolding optional
      optional_split base next n stands h =
          let inner = optional greedy m body base next in
          let round = body (base + length inner.rows) inner.entry in
          let split = choice greedy round.entry next in
          let front = stands-left rows base (inner.rows ++ round.rows) (split ∷ []) stands in
          let q = base + length inner.rows + length round.rows in
          let before = o.entry base next n (stands-left rows base inner.rows round.rows front) h in
          let entered = s.entry (base + length inner.rows) inner.entry (n + i)
          (stands-right rows base inner.rows round.rows front) before in
          more q (n + i + c + 1) (n + (i + c + 1))
          (last_short base (n + i + c) q (inner.rows ++ round.rows) split stands
          (omega (arith, length-append inner.rows round.rows))
          (both_next greedy round.entry next (n + i + c) entered (more next n (n + i + c) h (omega arith))))
          (omega arith)

      optional_more : Lengthens (optional greedy (suc m) body) (i + c + 1)
      unfolding optional
      optional_more = record {
        entry = optional_split;
        each = λ base next n stands h.
            let inner = optional greedy m body base next in
            let round = body (base + length inner.rows) inner.entry in
            let split = choice greedy round.entry next in
            let front = stands-left rows base (inner.rows ++ round.rows) (split ∷ []) stands in
            let left = stands-left rows base inner.rows round.rows front in
            let right = stands-right rows base inner.rows round.rows front in
            let q = base + length inner.rows + length round.rows in
            let all = n + (i + c + 1) * (i + c + 1) in
            each_last base all q (inner.rows ++ round.rows) split
            (each-append (λ q. Short rows all q) base inner.rows round.rows
            (each_more base inner.rows (n + i * i) all (o.each base next n left h) (omega arith))
            (each_more (base + length inner.rows) round.rows (n + i + c * c) all
            (s.each (base + length inner.rows) inner.entry (n + i) right (o.entry base next n left h))
            (omega arith)))
            (omega (arith, length-append inner.rows round.rows))
            (more q (n + (i + c + 1)) all (optional_split base next n stands h) (omega arith));
      }

    optional_lengthens : (n : ℕ) → Lengthens (optional greedy n body) (n * (c + 1))
    unfolding optional
    optional_lengthens zero = grind (arith, common_steps, more)
    optional_lengthens (suc n) =
        let one_more : n * (c + 1) + c + 1 ≡ suc n * (c + 1) = omega arith in
        subst (λ m. Lengthens (optional greedy (suc n) body) m) one_more
        (optional_more n (n * (c + 1)) (optional_lengthens n))

    loop_split : Stops body c → (base next n : ℕ) → Stands rows base (loop greedy body base next).rows
        → Short rows n next → Short rows (n + (c + 1)) base
    loop_split b base next n stands h =
        let round = body (base + 1) base in
        more base (n + c + 1) (n + (c + 1))
        (short_at rows (n + c) base (choice greedy round.entry next) stands.0
        (both_next greedy round.entry next (n + c)
        (more round.entry c (n + c) (b.entry (base + 1) base stands.1) (omega arith))
        (more next n (n + c) h (omega arith)))) (omega arith)

    loop_lengthens : Stops body c → Lengthens (loop greedy body) (c + 1)
    loop_lengthens b = record {
      entry = loop_split b;
      each = λ base next n stands h.
          let round = body (base + 1) base in
          let all = n + (c + 1) * (c + 1) in
          let split = loop_split b base next n stands h in (
            more base (n + (c + 1)) all split (omega arith),
            each_more (base + 1) round.rows (n + (c + 1) + c * c) all
                (s.each (base + 1) base (n + (c + 1)) stands.1 split)
                (omega arith),
          );
    }

  -- ---- the parts that read a byte

  chained_stops : {first : Maker} {c : ℕ} (second : Maker) (d : ℕ) → Stops first c
      → Stops (chained first second) (c + d)
  chained_stops {first} {c} second d f = grind (arith, common_steps, more, stands-right)

  then_stops : {first second : Maker} {c d : ℕ} → Lengthens first c → Stops second d
      → Stops (chained first second) (c + d)
  then_stops {first} {second} {c} {d} f s = record {
    entry = λ base next stands.
        let after = second base next in
        let before = first (base + length after.rows) after.entry in
        more before.entry (d + c) (c + d)
        (f.entry (base + length after.rows) after.entry d (stands-right rows base after.rows before.rows stands)
        (s.entry base next (stands-left rows base after.rows before.rows stands))) (omega arith);
  }

  either_stops : {first second : Maker} {c d : ℕ} → Stops first c → Stops second d
      → Stops (either first second) (c + d + 1)
  either_stops {first} {second} {c} {d} f s = grind (arith, common_steps, stands-left, stands-right, last_short, more)

  copies_stop : {body : Maker} {c : ℕ} → Lengthens body c → Stops body c → (n : ℕ) → 0 < n
      → Stops (copies n body) (n * c)
  unfolding copies
  copies_stop s b zero above = absurd (omega arith)
  copies_stop {body} {c} s b (suc n) above =
      let one_more : n * c + c ≡ suc n * c = omega arith in
      subst (λ m. Stops (chained (copies n body) body) m) one_more (then_stops (copies_lengthen s n) b)

  -- ---- expressions

  module _ (least : ℕ) (most : Option ℕ) (greedy : Bool) (e : Expression) (c : ℕ) (s : Lengthens (compile e) c)
      (b : 0 < min_len e → Stops (compile e) c) where
    repeated_lengthens : IsBounded least most e
        → Lengthens (repeated least most greedy (compile e)) (repeated_count least most c)
    repeated_lengthens bounded = by_most most bounded
      where
        by_most : (most : Option ℕ) → IsBounded least most e
            → Lengthens (repeated least most greedy (compile e)) (repeated_count least most c)
        by_most None bounded =
            let all : least * c + (c + 1) ≡ (least + 1) * c + 1 = omega arith in
            subst (λ m. Lengthens (chained (copies least (compile e)) (loop greedy (compile e))) m) all
            (chained_lengthens (copies_lengthen s least) (loop_lengthens greedy s (b bounded)))
        by_most (Some most) bounded =
            chained_lengthens (copies_lengthen s least) (optional_lengthens greedy s (most - least))

    repeated_stops : 0 < least * min_len e
        → Stops (repeated least most greedy (compile e)) (repeated_count least most c)
    repeated_stops above = by_most most
      where
        rounds : Stops (copies least (compile e)) (least * c)
        rounds =
            let both = factors least (min_len e) above in
            copies_stop s (b both.1) least both.0

        by_most : (most : Option ℕ) → Stops (repeated least most greedy (compile e)) (repeated_count least most c)
        by_most None =
            let all : least * c + (c + 1) ≡ (least + 1) * c + 1 = omega arith in
            subst (λ m. Stops (chained (copies least (compile e)) (loop greedy (compile e))) m) all
            (chained_stops (loop greedy (compile e)) (c + 1) rounds)
        by_most (Some most) = grind (arith, common_steps, chained_stops, rounds)

  -- An expression's rows lengthen paths by at most the square of their number.
  pub compile_lengthens : (e : Expression) → IsLoopSafe e
      → Lengthens (compile e) (rows_count e) × (0 < min_len e → Stops (compile e) (rows_count e))
  unfolding compile rows_count min_len
  compile_lengthens Expression.Empty safe = (straight_lengthens, λ above. absurd (omega arith))
  compile_lengthens (Expression.Class set) safe = (class_lengthens set, λ above. class_stops set)
  compile_lengthens (Expression.Look look) safe = (look_lengthens look, λ above. absurd (omega arith))
  compile_lengthens (Expression.Concat a b) safe =
      let f = compile_lengthens a safe.0 in
      let s = compile_lengthens b safe.1 in (
        chained_lengthens f.0 s.0,
        λ above.
            ⊎_elim (λ (h : 0 < min_len a). chained_stops (compile b) (rows_count b) (f.1 h))
            (λ (h : 0 < min_len b). then_stops f.0 (s.1 h)) (either_above (min_len a) (min_len b) above),
      )
  compile_lengthens (Expression.Alternate a b) safe =
      let f = compile_lengthens a safe.0 in
      let s = compile_lengthens b safe.1 in
      (either_lengthens f.0 s.0, λ above. either_stops (f.1 (omega arith)) (s.1 (omega arith)))
  compile_lengthens (Expression.Repeat least most greedy body) safe =
      let h = compile_lengthens body safe.1 in (
        repeated_lengthens least most greedy body (rows_count body) h.0 h.1 safe.0,
        repeated_stops least most greedy body (rows_count body) h.0 h.1,
      )

-- How many rows an expression has.
use Rattle.rx_spec.proofs.Prelude.{common_steps, [], ◌≡◌, ℕ, zero, suc, ◌+◌, ◌-◌, ◌*◌, Bool, Option, Some, None, List}
use Rattle.rx_spec.proofs.Prelude.{◌∷◌, ◌++◌, length, refl, arith, length-append, append_assoc, append-nil, ◌∙◌}
use Rattle.rx_spec.proofs.Prelude.{Expression, Row, Maker, chained, either, choice, copies, optional, repeated, compile}
use Rattle.rx_spec.proofs.Prelude.{repeated_count, rows_count}
use Rattle.std.proofs.Common.{add-zero}

-- A maker makes so many rows, wherever they stand.
abbrev pub Makes : Maker → ℕ → Type 0
Makes maker count = (base next : ℕ) → length (maker base next).rows ≡ count

pub chained_makes : (first second : Maker) (c d : ℕ) → Makes first c → Makes second d
    → Makes (chained first second) (c + d)
chained_makes first second c d f s base next = grind (arith, common_steps)

pub either_makes : (first second : Maker) (c d : ℕ) → Makes first c → Makes second d
    → Makes (either first second) (c + d + 1)
either_makes first second c d f s base next = grind (arith, common_steps)

pub copies_make : (body : Maker) (c : ℕ) → Makes body c → (n : ℕ) → Makes (copies n body) (n * c)
unfolding copies
copies_make body c h zero base next = omega arith
copies_make body c h (suc n) base next =
    omega (arith, chained_makes (copies n body) body (n * c) c (copies_make body c h n) h base next)

pub optional_makes : (greedy : Bool) (body : Maker) (c : ℕ) → Makes body c → (n : ℕ)
    → Makes (optional greedy n body) (n * (c + 1))
unfolding optional
optional_makes greedy body c h zero base next = omega arith
optional_makes greedy body c h (suc n) base next =
    let inner = optional greedy n body base next in
    let round = body (base + length inner.rows) inner.entry in
    let last : List Row = choice greedy round.entry next ∷ [] in
    omega (
      arith,
      length-append (inner.rows ++ round.rows) last,
      length-append inner.rows round.rows,
      optional_makes greedy body c h n base next,
    )

pub repeated_makes : (least : ℕ) (most : Option ℕ) (greedy : Bool) (body : Maker) (c : ℕ) → Makes body c
    → Makes (repeated least most greedy body) (repeated_count least most c)
repeated_makes least None greedy body c h base next = grind (arith, common_steps, copies_make)
repeated_makes least (Some most) greedy body c h base next =
    grind (arith, common_steps, copies_make, optional_makes, chained_makes)

-- An expression's rows are as many as its count says, wherever they stand.
pub rows_counted : (e : Expression) → Makes (compile e) (rows_count e)
unfolding compile rows_count
rows_counted (Expression.Concat a b) base next =
    chained_makes (compile a) (compile b) (rows_count a) (rows_count b) (rows_counted a) (rows_counted b) base next
rows_counted (Expression.Alternate a b) base next =
    either_makes (compile a) (compile b) (rows_count a) (rows_count b) (rows_counted a) (rows_counted b) base next
rows_counted (Expression.Repeat least most greedy body) base next =
    repeated_makes least most greedy (compile body) (rows_count body) (rows_counted body) base next
rows_counted _ base next = refl

-- ---- makers in sequence

pub chained_assoc : (a b c : Maker) (base next : ℕ)
    → chained (chained a b) c base next ≡ chained a (chained b c) base next
chained_assoc a b c base next = grind (arith, common_steps, length-append, append_assoc)

pub chained_alike : (f g h : Maker) → ((base next : ℕ) → f base next ≡ g base next) → (base next : ℕ)
    → chained f h base next ≡ chained g h base next
chained_alike f g h same base next = grind (arith, common_steps)

-- one more copy, in front
pub copies-suc : (body : Maker) (n base next : ℕ)
    → copies (suc n) body base next ≡ chained body (copies n body) base next
unfolding copies
copies-suc body zero base next = grind (arith, common_steps, append-nil, add-zero)
copies-suc body (suc n) base next =
    chained_alike (copies (suc n) body) (chained body (copies n body)) body (copies-suc body n) base next
    ∙ chained_assoc body (copies n body) body base next

-- Rows of repetitions and of several patterns, one at a time.
use Rattle.rx_spec.proofs.Prelude.{common_steps, ◌≡◌, ℕ, suc, ◌+◌, ◌-◌, Bool, Option, Some, None, List, [], ◌∷◌, ◌++◌}
use Rattle.rx_spec.proofs.Prelude.{length, refl, arith, length-append, sum_by, sum_by-cons, Expression, Row, Part}
use Rattle.rx_spec.proofs.Prelude.{Maker, straight, chained, choice, copies, optional, loop, repeated, compile}
use Rattle.rx_spec.proofs.Prelude.{rows_count, patterns_from, start_of_all}
use Rattle.rx_laws.specs.EndsLaws.{lowered}
use Rattle.rx_laws.specs.RowsLaws.{part}
use Rattle.rx_lemmas.proofs.Rows.{rows_counted, chained_alike, chained_assoc, copies-suc}

-- nothing before a part
straight_first : (maker : Maker) (base next : ℕ) → chained straight maker base next ≡ maker base next
straight_first maker base next = grind (arith, common_steps)

needed_then : (body rest : Maker) (n base next : ℕ)
    → chained (copies (suc n) body) rest base next ≡ chained body (chained (copies n body) rest) base next
needed_then body rest n base next = grind (arith, common_steps, chained_alike, copies-suc, chained_assoc)

pub needed_round : (n : ℕ) (most : Option ℕ) (greedy : Bool) (body : Maker) (base next : ℕ)
    → repeated (suc n) most greedy body base next ≡ chained body (repeated n (lowered most) greedy body) base next
needed_round n None greedy body base next = needed_then body (loop greedy body) n base next
needed_round n (Some most) greedy body base next = grind (arith, common_steps, needed_then)

pub optional_alone : (greedy : Bool) (n : ℕ) (body : Maker) (base next : ℕ)
    → repeated 0 (Some n) greedy body base next ≡ optional greedy n body base next
unfolding copies
optional_alone greedy n body base next = grind (arith, common_steps)

pub loop_alone : (greedy : Bool) (body : Maker) (base next : ℕ)
    → repeated 0 None greedy body base next ≡ loop greedy body base next
unfolding copies
loop_alone greedy body base next = straight_first (loop greedy body) base next

abbrev with_round : Bool → Maker → ℕ → ℕ → Part → Part
with_round greedy body base next others =
    let round = body (base + length others.rows) others.entry in
    part (base + length others.rows + length round.rows)
    (others.rows ++ round.rows ++ (choice greedy round.entry next ∷ []))

pub optional_round : (n : ℕ) (greedy : Bool) (body : Maker) (base next : ℕ)
    → repeated 0 (Some (suc n)) greedy body base next
    ≡ with_round greedy body base next (repeated 0 (Some n) greedy body base next)
unfolding optional
optional_round n greedy body base next = grind (arith, common_steps, optional_alone)

pub patterns_counted : (base k : ℕ) (es : List Expression)
    → length (patterns_from base k es).rows ≡ sum_by (λ e. rows_count e + 1) es
unfolding patterns_from
patterns_counted base k [] = refl
patterns_counted base k (e ∷ es) =
    let own = compile e (base + 1) base in
    let later = base + 1 + length own.rows in
    let others = patterns_from later (k + 1) es in
    omega (
      arith,
      length-append own.rows others.rows,
      rows_counted e (base + 1) base,
      patterns_counted later (k + 1) es,
      sum_by-cons (λ x. rows_count x + 1) e es,
    )

-- one Split fewer than patterns
pub splits_counted : (base entry : ℕ) (entries : List ℕ)
    → length (start_of_all base (entry ∷ entries)).rows ≡ length entries
unfolding start_of_all
splits_counted base entry [] = refl
splits_counted base entry (next ∷ entries) =
    let others = start_of_all base (next ∷ entries) in
    let last : List Row = Row.Split entry others.entry ∷ [] in
    omega (arith, length-append others.rows last, splits_counted base next entries)

pub start_of_more : (base entry next : ℕ) (entries : List ℕ)
    → start_of_all base (entry ∷ (next ∷ entries))
    ≡ (let others = start_of_all base (next ∷ entries) in
    part (base + length entries) (others.rows ++ (Row.Split entry others.entry ∷ [])))
unfolding start_of_all
start_of_more base entry next entries = grind (arith, common_steps, splits_counted)

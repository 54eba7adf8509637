-- The first class of a range leads where the range leads.
use Rattle.rx_spec.proofs.Prelude.{◌≡◌, ℕ, zero, suc, ◌+◌, ◌<◌, ◌≤◌, Bool, true, false, cond, leb, List, [], ◌∷◌}
use Rattle.rx_spec.proofs.Prelude.{length, get_or, refl, ap, subst, ◌∙◌, arith, and_right}
use Rattle.rx_order.proofs.KindNumbers.{at_most, over}
use Rattle.rx_sparse.specs.declared.ranges.ClassRange.{ClassRange}
use Rattle.rx_sparse.specs.Rows.{has_class, next_among, no_range}

-- ranges rise and don't overlap
pub record AreApart (ranges : List ClassRange) : Type 0 where
  pub ordered : (i : ℕ) → i < length ranges → (get_or ranges i no_range).first ≤ (get_or ranges i no_range).last
  pub rising : (i : ℕ) → i + 1 < length ranges
      → (get_or ranges i no_range).last < (get_or ranges (i + 1) no_range).first

-- so do those behind the first
tail : (r : ClassRange) (ranges : List ClassRange) → AreApart (r ∷ ranges) → AreApart ranges
tail r ranges are = record {
  ordered = λ i h. are.ordered (suc i) (omega (arith, h));
  rising = λ i h.
      let e : suc i + 1 ≡ suc (i + 1) = omega arith in
      subst (λ (n : ℕ). (get_or ranges i no_range).last < (get_or (r ∷ ranges) n no_range).first) e
      (are.rising (suc i) (omega (arith, h)));
}

-- and the first ends before each of these begins
ends_before : (ranges : List ClassRange) → AreApart ranges → (i : ℕ) → i + 1 < length ranges
    → (get_or ranges 0 no_range).last < (get_or ranges (i + 1) no_range).first
ends_before ranges are zero h = are.rising 0 h
ends_before ranges are (suc i) h =
    let e : i + 1 ≡ suc i = omega arith in
    let low : suc i < length ranges = omega (arith, h) in
    let before = subst (λ (n : ℕ). (get_or ranges 0 no_range).last < (get_or ranges n no_range).first) e
    (ends_before ranges are i (omega (arith, h))) in
    omega (arith, before, are.ordered (suc i) low, are.rising (suc i) h)

-- the first class of a range leads where the range leads
pub among_at : (ranges : List ClassRange) → AreApart ranges → (i : ℕ) → i < length ranges
    → next_among ranges (get_or ranges i no_range).first ≡ (get_or ranges i no_range).next
unfolding next_among
among_at [] are i h = elim h [ ]
among_at (r ∷ ranges) are zero h =
    let yes : has_class r.first r ≡ true =
    rw (at_most r.first r.first (omega arith), at_most r.first r.last (are.ordered 0 (omega arith))) refl in
    ap (λ (b : Bool). cond b r.next (next_among ranges r.first)) yes
among_at (r ∷ ranges) are (suc i) h =
    let class : ℕ = (get_or ranges i no_range).first in
    let e : i + 1 ≡ suc i = omega arith in
    let past : r.last < class =
    subst (λ (n : ℕ). r.last < (get_or (r ∷ ranges) n no_range).first) e
    (ends_before (r ∷ ranges) are i (omega (arith, h))) in
    let no : has_class class r ≡ false =
    and_right (leb r.first class) (leb class r.last) (over class r.last past) in
    ap (λ (b : Bool). cond b r.next (next_among ranges class)) no
    ∙ among_at ranges (tail r ranges are) i (omega (arith, h))

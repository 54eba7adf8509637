-- Where the kinds of the rows that are kept end, one row after another.
use Rattle.rx_spec.proofs.Prelude.{◌≡◌, ℕ, ◌+◌, ◌<◌, ◌≤◌, ◌&&◌, nat_le, nat_lt, List, length, slice_index, slice_set}
use Rattle.rx_spec.proofs.Prelude.{sym, ap, ◌∙◌, ⊎_elim, arith, and-true, cases_eq, lt-ltb, nat_tests, get_or-set_other}
use Rattle.rx_spec.proofs.Prelude.{get_or-set_same}
use Rattle.rx_minimize.proofs.Prelude.{AreFirsts, IsOrdered, Layout, kind_of, length-set, row_count}
use Rattle.rx_order.proofs.KindNumbers.{at_most}

-- the kind of the row that is kept at a place
abbrev pub kept_kind : Layout → List ℕ → ℕ → ℕ
kept_kind l firsts place = kind_of l (slice_index firsts place)

-- the ends of the kinds among the rows before a place
pub record AreEndsBefore (l : Layout) (firsts ends : List ℕ) (place : ℕ) : Type 0 where
  pub count : length ends ≡ 8
  pub within : (k : ℕ) → k < 8 → slice_index ends k ≤ place
  pub to_end : (p k : ℕ) → p < place → k < 8
      → nat_lt p (slice_index ends k) ≡ nat_le (kept_kind l firsts p) k

-- the same, and the row at the place already counts for its kind and those up to another
pub record AreEndsUpTo (l : Layout) (firsts ends : List ℕ) (place other : ℕ) : Type 0 where
  pub count : length ends ≡ 8
  pub from : kept_kind l firsts place ≤ other
  pub within : (k : ℕ) → k < 8 → slice_index ends k ≤ place + 1
  pub to_end : (p k : ℕ) → p < place → k < 8
      → nat_lt p (slice_index ends k) ≡ nat_le (kept_kind l firsts p) k
  pub here : (k : ℕ) → k < 8
      → nat_lt place (slice_index ends k) ≡ (nat_le (kept_kind l firsts place) k && nat_lt k other)

module _ {l : Layout} {firsts ends : List ℕ} {place : ℕ} where
  pub place_begun : AreEndsBefore l firsts ends place → AreEndsUpTo l firsts ends place (kept_kind l firsts place)
  place_begun are = record {
    count = are.count;
    from = omega arith;
    within = λ k h. omega (arith, are.within k h);
    to_end = are.to_end;
    here = λ k h. let low = are.within k h in grind (arith, nat_tests);
  }

  pub place_ended : AreEndsUpTo l firsts ends place 8 → AreEndsBefore l firsts ends (place + 1)
  place_ended are = record {
    count = are.count;
    within = are.within;
    to_end = λ p k h b.
        ⊎_elim
        (λ (e : p ≡ place).
        rw e (are.here k b ∙ ap (λ t. nat_le (kept_kind l firsts place) k && t) (lt-ltb k 8 b)
        ∙ and-true (nat_le (kept_kind l firsts place) k)))
        (λ (ne : p ≡ place → ⊥). are.to_end p k (omega arith) b)
        (cases_eq p place);
  }

  -- the rows before have no higher kinds
  pub kind_ended : IsOrdered l → AreFirsts (row_count l) firsts → place < length firsts → (other : ℕ)
      → other < 8 → AreEndsUpTo l firsts ends place other
      → AreEndsUpTo l firsts (slice_set ends other (place + 1)) place (other + 1)
  kind_ended ordered are_firsts h other b are = record {
    count = length-set ends other (place + 1) ∙ are.count;
    from = omega (arith, are.from);
    within = λ k c.
        ⊎_elim
        (λ (e : k ≡ other). rw (e, same) (omega arith))
        (λ (ne : k ≡ other → ⊥). rw (others k ne) (are.within k c))
        (cases_eq k other);
    to_end = λ p k low c.
        ⊎_elim
        (λ (e : k ≡ other).
        let rises = ordered.kinds (slice_index firsts p) (slice_index firsts place)
        (omega (arith, are_firsts.rising p place low h)) (are_firsts.below place h) in
        rw (e, same)
        (lt-ltb p (place + 1) (omega (arith, low))
        ∙ sym (at_most (kept_kind l firsts p) other (omega (arith, rises, are.from)))))
        (λ (ne : k ≡ other → ⊥). rw (others k ne) (are.to_end p k low c))
        (cases_eq k other);
    here = λ k c.
        ⊎_elim
        (λ (e : k ≡ other).
        let from = are.from in
        rw (e, same) (grind (arith, nat_tests)))
        (λ (ne : k ≡ other → ⊥).
        rw (others k ne) (are.here k c ∙ ap (λ t. nat_le (kept_kind l firsts place) k && t) (same_test k ne)))
        (cases_eq k other);
  }
    where
      same : slice_index (slice_set ends other (place + 1)) other ≡ place + 1
      same = get_or-set_same ends other (place + 1) 0 (omega (arith, are.count, b))

      others : (k : ℕ) → (k ≡ other → ⊥) → slice_index (slice_set ends other (place + 1)) k ≡ slice_index ends k
      others k ne = get_or-set_other ends other k (place + 1) 0 ne

      same_test : (k : ℕ) → (k ≡ other → ⊥) → nat_lt k other ≡ nat_lt k (other + 1)
      same_test k ne = grind (arith, nat_tests)

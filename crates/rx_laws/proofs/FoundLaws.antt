-- What is found, in the words of the field: a candidate, the leftmost, the preferred.
use Rattle.rx_spec.proofs.Prelude.{rules, ◌≡◌, ℕ, ◌+◌, ◌-◌, ◌<◌, ◌≤◌, ◌↔◌, ◌⊎◌, inl, inr, ⊎_elim, true, Option, Some}
use Rattle.rx_spec.proofs.Prelude.{None, List, length, refl, sym, subst, arith, common_steps, and_parts, and_from}
use Rattle.rx_spec.proofs.Prelude.{cases_lt, slice_get, find, nat_le, range_with_len, Expression, ends, Query, Match}
use Rattle.rx_spec.proofs.Prelude.{reading, admitted, first_of, end_within, candidate, found}
use Rattle.rx_laws.specs.FoundLaws.{IsAdmitted, IsCandidate}
use Rattle.rx_spec.specs.declared.Direction.{Direction}
use Rattle.rx_lemmas.proofs.Ranges.{range_none, none_in_range}
use Rattle.rx_lemmas.proofs.FoundLaws.{Matches, find_is, candidate_matches, candidate_none, is_found}

admitted_from : (q : Query) (n p k : ℕ) → admitted q n p k ≡ true → IsAdmitted q n p k
admitted_from q n p k e = grind (arith, common_steps, and_parts)

admitted_to : (q : Query) (n p k : ℕ) → IsAdmitted q n p k → admitted q n p k ≡ true
admitted_to q n p k (a, b, c, d) = grind (arith, common_steps, and_from)

pub admitted_tests : (q : Query) (n p k : ℕ) → admitted q n p k ≡ true ↔ IsAdmitted q n p k
admitted_tests q n p k = (admitted_from q n p k, admitted_to q n p k)

-- a match that begins at a place is a candidate there
candidate_of : (es : List Expression) (t : ℕ) (q : Query) (p k : ℕ) (m : Match)
    → Matches es t q p k m → IsCandidate es t q p k
candidate_of es t q p k m h = grind (arith, common_steps, find_is)

no_candidate : (es : List Expression) (t : ℕ) (q : Query) (p k : ℕ) → candidate es t q p k ≡ None
    → IsCandidate es t q p k → ⊥
no_candidate es t q p k none c = search (rules, candidate_none, admitted_to)

candidate_is_none : (es : List Expression) (t : ℕ) (q : Query) (p k : ℕ) → (IsCandidate es t q p k → ⊥)
    → candidate es t q p k ≡ None
candidate_is_none es t q p k free = go (candidate es t q p k) refl
  where
    go : (o : Option Match) → candidate es t q p k ≡ o → candidate es t q p k ≡ None
    go None e = e
    go (Some m) e = absurd (free (candidate_of es t q p k m (candidate_matches es t q p k m e)))

pub found_candidate : (es : List Expression) (t : ℕ) (q : Query) (m : Match) → found es t q ≡ Some m
    → IsCandidate es t q m.start m.pattern
found_candidate es t q m e = let h = is_found es t q m e in candidate_of es t q m.start m.pattern m h.matches

pub found_leftmost : (es : List Expression) (t : ℕ) (q : Query) (m : Match) → found es t q ≡ Some m
    → (p k : ℕ) → IsCandidate es t q p k → (m.start < p) ⊎ ((m.start ≡ p) × (m.pattern ≤ k))
found_leftmost es t q m e p k c =
    let h = is_found es t q m e in
    ⊎_elim
    (λ (before : p < m.start). absurd (no_candidate es t q p k (h.earlier p k c.admitted.0 before c.admitted.2) c))
    (λ (from : m.start ≤ p).
    ⊎_elim
    (λ (later : m.start < p). inl later)
    (λ (upto : p ≤ m.start). there p (omega arith) c)
    (cases_lt m.start p))
    (cases_lt p m.start)
  where
    there : (p : ℕ) → m.start ≡ p → IsCandidate es t q p k → (m.start < p) ⊎ ((m.start ≡ p) × (m.pattern ≤ k))
    there p same c =
        let h = is_found es t q m e in
        ⊎_elim
        (λ (lower : k < m.pattern). absurd (no_candidate es t q m.start k (h.lower k lower)
        (subst (λ x. IsCandidate es t q x k) (sym same) c)))
        (λ (upto : m.pattern ≤ k). inr (same, upto))
        (cases_lt k m.pattern)

pub found_preferred : (es : List Expression) (t : ℕ) (q : Query) (m : Match) → found es t q ≡ Some m
    → (e : Expression) → slice_get es m.pattern ≡ Some e
    → find (λ j. nat_le j q.end) (ends (reading Direction.Forward t q.haystack) e m.start) ≡ Some m.end
found_preferred es t q m is e there =
    let h = (is_found es t q m is).matches in
    let same : h.expression ≡ e = cc (h.there, there) in
    subst (λ x. end_within (reading Direction.Forward t q.haystack) x q.end m.start ≡ Some m.end) same h.end

nothing_there : (es : List Expression) (t : ℕ) (q : Query) → found es t q ≡ None
    → (p k : ℕ) → IsCandidate es t q p k → ⊥
nothing_there es t q none p k c =
    let n = q.end + 1 - q.start in
    let f : ℕ → Option Match = λ p. first_of (λ k. candidate es t q p k) (range_with_len 0 (length es)) in
    let place : q.start + (p - q.start) ≡ p = omega arith in
    let numbered : 0 + k ≡ k = omega arith in
    let at_place : f p ≡ None =
    subst (λ x. f x ≡ None) place (none_in_range f q.start n none (p - q.start) (omega arith)) in
    no_candidate es t q p k
    (subst (λ x. candidate es t q p x ≡ None) numbered
    (none_in_range (candidate es t q p) 0 (length es) at_place k c.admitted.2))
    c

nothing_found : (es : List Expression) (t : ℕ) (q : Query) → ((p k : ℕ) → IsCandidate es t q p k → ⊥)
    → found es t q ≡ None
nothing_found es t q free = search (rules, range_none, candidate_is_none)

pub found_nothing : (es : List Expression) (t : ℕ) (q : Query)
    → found es t q ≡ None ↔ ((p k : ℕ) → IsCandidate es t q p k → ⊥)
found_nothing es t q = (nothing_there es t q, nothing_found es t q)

pub found_done : (es : List Expression) (t : ℕ) (q : Query) → q.end < q.start → found es t q ≡ None
found_done es t q done = nothing_found es t q (λ p k c. omega arith)

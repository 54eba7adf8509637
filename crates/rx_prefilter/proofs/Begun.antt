-- How much of a literal was read last.
use Rattle.rx_spec.proofs.Prelude.{common_steps, ◌≡◌, ℕ, ◌+◌, ◌-◌, ◌<◌, ◌≤◌, List, length, slice_index, ap, sym, ◌∙◌}
use Rattle.rx_spec.proofs.Prelude.{subst, ⊎_elim, arith, cases_lt}
use Rattle.rx_prefilter.specs.Literals.{EndsWith, IsLongest}

-- the literal's first k bytes are the last ones between two offsets
pub record Begun (hay literal : List ℕ) (from to k : ℕ) : Type 0 where
  pub few : from + k ≤ to
  pub reads : (i : ℕ) → i < k → slice_index hay (to - k + i) ≡ slice_index literal i

-- as many of them as there are, and not all
pub record MostBegun (hay literal : List ℕ) (from to k : ℕ) : Type 0 where
  pub begun : Begun hay literal from to k
  pub fewer : k < length literal
  pub most : (i : ℕ) → i < length literal → Begun hay literal from to i → i ≤ k

module _ (hay literal : List ℕ) (from : ℕ) where
  pub none_begun : 0 < length literal → MostBegun hay literal from from 0
  none_begun some = grind (arith, common_steps)

  -- one byte more
  module _ {to k byte j : ℕ} (m : MostBegun hay literal from to k) (is : slice_index hay to ≡ byte)
      (l : IsLongest literal k byte j) where
    same_place : {i i' : ℕ} → i ≡ i' → slice_index hay i ≡ slice_index hay i'
    same_place e = ap (slice_index hay) e

    -- a byte before it, as one of the literal
    read_before : (i : ℕ) → i + 1 < j → slice_index hay (to + 1 - j + i) ≡ slice_index literal i
    read_before i h = grind (arith, common_steps)

    read_last : (i : ℕ) → i + 1 ≡ j → slice_index hay (to + 1 - j + i) ≡ slice_index literal i
    read_last i e = grind (arith, common_steps)

    pub begun_on : Begun hay literal from (to + 1) j
    begun_on =
        let room = m.begun.few in
        let few = l.ends.few in
        grind (arith, common_steps, read_before, read_last)

    -- what ends there begins a byte earlier
    earlier : (i : ℕ) → Begun hay literal from (to + 1) (i + 1) → Begun hay literal from to i
    earlier i b = grind (arith, common_steps)

    ends : (i : ℕ) → i < length literal → Begun hay literal from (to + 1) i → EndsWith literal k byte i
    ends i low b =
        let few = b.few in
        let room = m.begun.few in
        record {
          few = fewer;
          last = λ some.
              let place : to + 1 - i + (i - 1) ≡ to = omega arith in
              sym (b.reads (i - 1) (omega arith)) ∙ same_place place ∙ is;
          before = λ x h.
              let place : to - k + (k + 1 - i + x) ≡ to + 1 - i + x = omega (arith, h, fewer) in
              sym (m.begun.reads (k + 1 - i + x) (omega arith)) ∙ same_place place
              ∙ b.reads x (omega arith);
        }
      where
        fewer : i ≤ k + 1
        fewer =
            ⊎_elim (λ (none : i < 1). omega arith)
            (λ (some : 1 ≤ i).
            let one : i ≡ i - 1 + 1 = omega arith in
            let before = m.most (i - 1) (omega arith)
            (earlier (i - 1) (subst (Begun hay literal from (to + 1)) one b)) in
            omega arith)
            (cases_lt i 1)

    pub begun_more : j < length literal → MostBegun hay literal from (to + 1) j
    begun_more fewer = record {
      begun = begun_on;
      fewer = fewer;
      most = λ i low b. l.most i (ends i low b);
    }

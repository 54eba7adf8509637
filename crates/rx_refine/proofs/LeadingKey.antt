-- Rows vote for their keys: of two rows with different keys neither is counted, so a key that more than
-- half of the rows have is left over.
use Rattle.rx_refine.proofs.Prelude.{List, arith, cases_eq, common_steps, eqb, get_or, how_many_have, inl, inr, is_in}
use Rattle.rx_refine.proofs.Prelude.{length, list_any_kept, refl, rules, sym, take, take_all, true, ℕ, ◌*◌, ◌+◌, ◌-◌}
use Rattle.rx_refine.proofs.Prelude.{◌<◌, ◌≡◌, ◌≤◌}

have_same : (members keys : List ℕ) (key i : ℕ) → i < length members → get_or keys (get_or members i 0) 0 ≡ key
    → how_many_have keys key (take (i + 1) members) ≡ how_many_have keys key (take i members) + 1
have_same members keys key i l e = grind (arith, common_steps)

have_other : (members keys : List ℕ) (key i : ℕ) → i < length members → (get_or keys (get_or members i 0) 0 ≡ key → ⊥)
    → how_many_have keys key (take (i + 1) members) ≡ how_many_have keys key (take i members)
have_other members keys key i l ne = grind (arith, common_steps)

-- the next row is among the rows that were taken
pub is_in_next : (members : List ℕ) (i : ℕ) → i < length members
    → is_in (take (i + 1) members) (get_or members i 0) ≡ true
is_in_next members i l = grind (arith, common_steps)

pub is_in_kept : (members : List ℕ) (i row : ℕ) → is_in (take i members) row ≡ true
    → is_in (take (i + 1) members) row ≡ true
is_in_kept members i row h = list_any_kept (eqb row) members i h

-- the first rows have voted
pub record IsVoting (members keys : List ℕ) (i leading votes : ℕ) : Type 0 where
  pub few : votes ≤ i
  pub own : 2 * how_many_have keys leading (take i members) ≤ i + votes
  pub others : (key : ℕ) → (key ≡ leading → ⊥) → 2 * how_many_have keys key (take i members) + votes ≤ i
  pub some : 0 < i → (row : ℕ) × (is_in (take i members) row ≡ true) × (get_or keys row 0 ≡ leading)

module _ {members keys : List ℕ} {i leading votes : ℕ} (l : i < length members)
    (v : IsVoting members keys i leading votes) where
  pub own_vote : get_or keys (get_or members i 0) 0 ≡ leading → IsVoting members keys (i + 1) leading (votes + 1)
  own_vote e = search (rules, have_same, have_other, is_in_next)

  -- nothing is left over, so any key has at most half of the rows
  pub first_vote : votes ≡ 0 → IsVoting members keys (i + 1) (get_or keys (get_or members i 0) 0) (votes + 1)
  first_vote z =
      let half : (key : ℕ) → 2 * how_many_have keys key (take i members) ≤ i =
      λ (key : ℕ). elim (cases_eq key leading) [
        | inl e ↦ let f = v.own in rw e (omega arith)
        | inr ne ↦ omega arith
      ] in
      record {
        few = omega arith;
        own =
            omega (
              arith,
              half (get_or keys (get_or members i 0) 0),
              have_same members keys (get_or keys (get_or members i 0) 0) i l refl,
            );
        others = λ key ne. omega (arith, half key, have_other members keys key i l (λ g. ne (sym g)));
        some = λ _. (get_or members i 0, is_in_next members i l, refl);
      }

  pub other_vote : 0 < votes → (get_or keys (get_or members i 0) 0 ≡ leading → ⊥)
      → IsVoting members keys (i + 1) leading (votes - 1)
  other_vote p ne = record {
    few = let f = v.few in omega arith;
    own = let f = v.own in omega (arith, have_other members keys leading i l ne);
    others = λ key n. elim (cases_eq (get_or keys (get_or members i 0) 0) key) [
      | inl e ↦ omega (arith, have_same members keys key i l e)
      | inr d ↦ omega (arith, v.others key n, have_other members keys key i l d)
    ];
    some = λ _. (let f = v.few in let s = v.some (omega arith) in (s.0, is_in_kept members i s.0 s.1, s.2));
  }

pub half_at_end : {members keys : List ℕ} {i leading votes : ℕ} → length members ≤ i → i ≤ length members
    → IsVoting members keys i leading votes → (key : ℕ) → (key ≡ leading → ⊥)
    → 2 * how_many_have keys key members ≤ length members
half_at_end {members} {keys} {i} {votes} g h v key ne =
    let t : take i members ≡ members = take_all i members g in
    let o : 2 * how_many_have keys key members + votes ≤ i = rw t at (v.others key ne) in
    omega arith

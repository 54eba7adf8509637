-- Matches that split a character are passed over without a bound: from the limit on, no number of turns cuts
-- anything off.
use Rattle.rx_spec.proofs.Prelude.{common_steps, ◌≡◌, ℕ, zero, suc, ◌+◌, ◌-◌, ◌≤◌, true, false, None, refl, ap, sym}
use Rattle.rx_spec.proofs.Prelude.{◌∙◌, arith, Ok, eqb-false, Query, is_done, Machine, Settings, HalfAnswer}
use Rattle.rx_spec.proofs.Prelude.{half_search, narrower, is_narrowest, unless_split, skip_splits, split_limit}
use Rattle.rx_spec.proofs.Prelude.{skips_splits, half_unsplit, Table}
use Rattle.rx_spec.specs.declared.Direction.{Direction}

-- a search that finds nothing where the span has nothing more to give
abbrev pub NoneWhenDone : (Query → HalfAnswer) → Type 0
NoneWhenDone search = (q : Query) → is_done q ≡ true → search q ≡ Ok None

pub half_when_done : {R : Type 0} (m : Machine R) (s : Settings) (direction : Direction)
    → NoneWhenDone (half_search m s direction)
half_when_done m s direction q done = rw done refl

module _ (search : Query → HalfAnswer) (none : NoneWhenDone search) where
  turn : (direction : Direction) (n : ℕ) (q : Query)
      → skip_splits search direction (suc n) q
      ≡ unless_split direction q (search q) (skip_splits search direction n (narrower direction q))
  unfolding skip_splits
  turn direction n q = refl

  no_turn : (direction : Direction) (q : Query) → skip_splits search direction 0 q ≡ Ok None
  unfolding skip_splits
  no_turn direction q = refl

  -- a turn gives the same with two ways to go on that are the same, where there is a narrower query
  turn_alike : (direction : Direction) (n m : ℕ) (q : Query)
      → (is_narrowest direction q ≡ false
      → skip_splits search direction n (narrower direction q) ≡ skip_splits search direction m (narrower direction q))
      → skip_splits search direction (suc n) q ≡ skip_splits search direction (suc m) q
  turn_alike direction n m q others = grind (arith, common_steps, turn)

  -- a narrower query has a lower limit
  limit_falls : (direction : Direction) (q : Query) (n : ℕ) → is_narrowest direction q ≡ false → split_limit q ≤ suc n
      → split_limit (narrower direction q) ≤ n
  limit_falls Direction.Forward q n e h = omega arith
  limit_falls Direction.Reverse q n e h = let some = eqb-false q.end 0 e in omega arith

  one_more : (direction : Direction) (n : ℕ) (q : Query) → split_limit q ≤ n
      → skip_splits search direction n q ≡ skip_splits search direction (suc n) q
  one_more direction zero q h = grind (arith, common_steps, no_turn, turn)
  one_more direction (suc n) q h =
      turn_alike direction n (suc n) q
      (λ e. one_more direction n (narrower direction q) (limit_falls direction q n e h))

  many_more : (direction : Direction) (more : ℕ) (q : Query)
      → skip_splits search direction (split_limit q) q ≡ skip_splits search direction (split_limit q + more) q
  many_more direction zero q = grind (arith, common_steps)
  many_more direction (suc more) q =
      let e : suc (split_limit q + more) ≡ split_limit q + suc more = omega arith in
      many_more direction more q ∙ one_more direction (split_limit q + more) q (omega arith)
      ∙ ap (λ n. skip_splits search direction n q) e

  -- so any number of turns from the limit on gives the same
  pub splits_uncut : (direction : Direction) (n : ℕ) (q : Query) → split_limit q ≤ n
      → skip_splits search direction n q ≡ skip_splits search direction (split_limit q) q
  splits_uncut direction n q h =
      let e : split_limit q + (n - split_limit q) ≡ n = omega arith in
      sym (many_more direction (n - split_limit q) q ∙ ap (λ n. skip_splits search direction n q) e)

  -- and a search is the one of its query, or else the one of the narrower query
  pub splits_again : (direction : Direction) (q : Query)
      → skip_splits search direction (split_limit q) q
      ≡ unless_split direction q (search q)
      (skip_splits search direction (split_limit (narrower direction q)) (narrower direction q))
  splits_again direction q = grind (arith, common_steps, limit_falls, one_more, turn)

-- the same of a table that passes them over
pub unsplit_again : (t : Table) (direction : Direction) (q : Query) → skips_splits t ≡ true
    → half_unsplit t direction q
    ≡ unless_split direction q (half_search t.machine t.settings direction q)
    (half_unsplit t direction (narrower direction q))
unsplit_again t direction q skips = grind (arith, common_steps, splits_again)

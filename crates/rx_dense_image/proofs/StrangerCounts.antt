-- Lists of pattern ids, tested by counts of numbers that are no ids of patterns.
use Rattle.rx_spec.proofs.Prelude.{common_steps, ◌≡◌, ℕ, ◌+◌, ◌*◌, ◌<◌, ◌≤◌, Bool, true, false, not, ◌&&◌, ltb, leb}
use Rattle.rx_spec.proofs.Prelude.{eqb, List, length, take, drop, refl, ap₂, slice_index, ◌∙◌, arith, list_all}
use Rattle.rx_spec.proofs.Prelude.{take-add, lt-ltb, ne_eqb, le-leb}
use Rattle.rx_dense.specs.Layouts.{Layout}
use Rattle.rx_dense_image.specs.Closing.{is_list}
use Rattle.rx_dense_image.specs.Counts.{strangers}

-- no stranger is counted where all are ids of patterns
pub none_counted : (n : ℕ) (ids : List ℕ) → eqb (strangers n ids) 0 ≡ list_all (λ id. ltb id n) ids
none_counted n ids = grind (arith, common_steps)

-- two counts are the same where none stands between
pub counts_same : (n first len : ℕ) (ids : List ℕ)
    → eqb (strangers n (take first ids)) (strangers n (take (first + len) ids))
    ≡ list_all (λ id. ltb id n) (take len (drop first ids))
counts_same n first len ids = grind (arith, common_steps, take-add, none_counted)

-- ---- the list of a match row

last_test : (a b c d : Bool) → a ≡ true → b ≡ true → c ≡ false → d ≡ (((a && b) && not c) && d)
last_test true true false d p q r = refl
last_test true true true d p q r = absurd cc
last_test true false c d p q r = absurd cc
last_test false b c d p q r = absurd cc

-- where a list begins among the pattern ids, and how long it is
pub record IsPair (l : Layout) (i first len : ℕ) : Type 0 where
  pub is_first : first ≡ slice_index l.slices (2 * i)
  pub is_len : len ≡ slice_index l.slices (2 * i + 1)
  pub begins : first < length l.pattern_ids
  pub ends : first + len ≤ length l.pattern_ids
  pub some : len ≡ 0 → ⊥

pub list_test : {l : Layout} {i first len : ℕ} → IsPair l i first len → (counts : List ℕ)
    → ((k : ℕ) → k ≤ length l.pattern_ids → slice_index counts k ≡ strangers l.pattern_len (take k l.pattern_ids))
    → eqb (slice_index counts first) (slice_index counts (first + len)) ≡ is_list l i
list_test {l} {i} {first} {len} pair counts are =
    let ids : List ℕ = l.pattern_ids in
    let n : ℕ = l.pattern_len in
    let test : ℕ → ℕ → Bool =
    λ first len.
    ((ltb first (length ids) && leb (first + len) (length ids)) && not (eqb len 0))
    && list_all (λ id. ltb id n) (take len (drop first ids)) in
    ap₂ (λ (a b : ℕ). eqb a b) (are first (omega arith)) (are (first + len) pair.ends)
    ∙ counts_same n first len ids
    ∙ last_test (ltb first (length ids)) (leb (first + len) (length ids)) (eqb len 0) _ (lt-ltb _ _ pair.begins)
    (le-leb _ _ pair.ends) (ne_eqb len 0 pair.some)
    ∙ ap₂ test pair.is_first pair.is_len

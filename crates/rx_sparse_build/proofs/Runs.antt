-- Ranges of classes that lead to one row are runs of equal nodes.
use Rattle.rx_spec.proofs.Prelude.{◌≡◌, ℕ, zero, suc, ◌+◌, ◌-◌, ◌<◌, ◌≤◌, ◌==◌, ◌&&◌, ◌||◌, Bool, true, false, not}
use Rattle.rx_spec.proofs.Prelude.{cond, List, ◌∷◌, length, map, filter, refl, ap, ap₂, sym, ◌∙◌, arith, if◌then◌else◌}
use Rattle.rx_spec.proofs.Prelude.{range_with_len, ne_eqb, Node, dead, is_dead, runs_after, same_node}
use Rattle.rx_lemmas.proofs.Firsts.{by_test}
use Rattle.rx_sparse_build.proofs.SameNodes.{dead_apart}

-- one where a test passes, and one where it doesn't
abbrev one_if : Bool → ℕ
one_if b = if b then 1 else 0

abbrev none_if : Bool → ℕ
none_if b = if b then 0 else 1

-- a filtered list is longer by an element that is kept
one_more : (kept : Bool) (x : ℕ) (xs : List ℕ) → length (cond kept (x ∷ xs) xs) ≡ one_if kept + length xs
one_more true x xs = omega arith
one_more false x xs = omega arith

module _ (id_at : ℕ → ℕ) (node : ℕ → Node) where
  -- whether a range that leads to a row other than dead begins at a class
  abbrev begins : ℕ → Bool
  begins c = ((c == 0) || not (id_at (c - 1) == id_at c)) && not (id_at c == 0)

  -- Of so many classes the ids are the same exactly where the nodes are, and 0 is the id of the dead one.
  pub record AreSameRuns (count : ℕ) : Type 0 where
    pub deads : (c : ℕ) → c < count → is_dead (node c) ≡ (id_at c == 0)
    pub sames : (c : ℕ) → c + 1 < count → same_node (node c) (node (c + 1)) ≡ (id_at c == id_at (c + 1))

  module _ {count : ℕ} (are : AreSameRuns count) where
    -- a class begins such a range exactly where its node is another than that before
    begins_behind : (c : ℕ) → c + 1 < count
        → one_if (begins (c + 1)) ≡ none_if (is_dead (node (c + 1)) || same_node (node c) (node (c + 1)))
    begins_behind c h =
        let back : c + 1 - 1 ≡ c = omega arith in
        let some : (c + 1 == 0) ≡ false = ne_eqb (c + 1) 0 (λ e. omega (arith, e)) in
        ap₂ (λ (first : Bool) (before : ℕ).
        one_if ((first || not (id_at before == id_at (c + 1))) && not (id_at (c + 1) == 0))) some back
        ∙ by_kind (id_at (c + 1) == 0) (id_at c == id_at (c + 1))
        ∙ sym (ap₂ (λ (gone same : Bool). none_if (gone || same)) (are.deads (c + 1) h) (are.sames c h))
      where
        by_kind : (gone same : Bool) → one_if (not same && not gone) ≡ none_if (gone || same)
        by_kind true true = refl
        by_kind true false = refl
        by_kind false true = refl
        by_kind false false = refl

    -- so behind a class as many begin as there are runs
    runs_behind : (c k : ℕ) → c + 1 + k ≤ count
        → length (filter begins (range_with_len (c + 1) k))
        ≡ runs_after (node c) (map node (range_with_len (c + 1) k))
    unfolding runs_after
    runs_behind c zero h = refl
    runs_behind c (suc k) h =
        one_more (begins (c + 1)) (c + 1) (filter begins (range_with_len (c + 1 + 1) k))
        ∙ ap₂ (λ (m n : ℕ). m + n) (begins_behind c (omega arith)) (runs_behind (c + 1) k (omega arith))

    -- the first class begins one where its node isn't dead
    begins_first : 0 < count → one_if (begins 0) ≡ none_if (is_dead (node 0) || same_node dead (node 0))
    begins_first h =
        by_test (is_dead (node 0))
        (λ gone.
        ap (λ (zero : Bool). one_if (not zero)) (sym (are.deads 0 h) ∙ gone)
        ∙ sym (ap (λ (gone : Bool). none_if (gone || same_node dead (node 0))) gone))
        (λ alive.
        ap (λ (zero : Bool). one_if (not zero)) (sym (are.deads 0 h) ∙ alive)
        ∙ sym (ap₂ (λ (gone same : Bool). none_if (gone || same)) alive (dead_apart (node 0) alive)))

  -- As many ranges begin as there are runs of nodes.
  pub runs_counted : (count : ℕ) → AreSameRuns count
      → length (filter begins (range_with_len 0 count)) ≡ runs_after dead (map node (range_with_len 0 count))
  unfolding runs_after
  runs_counted zero are = refl
  runs_counted (suc k) are =
      one_more (begins 0) 0 (filter begins (range_with_len (0 + 1) k))
      ∙ ap₂ (λ (m n : ℕ). m + n) (begins_first are (omega arith)) (runs_behind are 0 k (omega arith))

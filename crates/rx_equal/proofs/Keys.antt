-- The keys of pairs of ids, and the rows of ids.
use Rattle.rx_spec.proofs.Prelude.{common_steps, ℕ, ◌≡◌, ◌^◌, ◌<◌, Bool, true, false, List, [], ◌∷◌, ◌++◌, ap, sym, ◌∙◌}
use Rattle.rx_spec.proofs.Prelude.{arith, ⊎_elim, subst, nat_eq, cond, Contains, IsTrue, ◌↔◌, eqb_tells, Contains-push}
use Rattle.rx_spec.proofs.Prelude.{Contains-push_cases, Contains-append_left, id_of, row_of}
use Rattle.std.proofs.lemmas.List.Sums.{passes_at_first}
use Rattle.rx_search.specs.Starts.{IsId}
use Rattle.rx_equal.specs.Evidence.{RowPair}
use Rattle.rx_equal.specs.declared.pairs.Pair.{Pair}
use Rattle.rx_equal.specs.Pairs.{key_of, rows_of, IsPairOf}

pub key_tells : (p q : Pair) → p.other < 2 ^ 32 → q.other < 2 ^ 32 → key_of p ≡ key_of q → p ≡ q
key_tells p q hp hq e = grind (arith, common_steps)

-- a number that is an id stands at its row
pub id_at_row : (ids : List ℕ) (id : ℕ) → IsId ids id → id_of ids (row_of ids id) ≡ id
id_at_row ids id is = grind (arith, common_steps, passes_at_first)

pub id_tells : (ids : List ℕ) (x y : ℕ) → IsId ids x → IsId ids y → row_of ids x ≡ row_of ids y → x ≡ y
id_tells ids x y hx hy e = sym (id_at_row ids x hx) ∙ ap (id_of ids) e ∙ id_at_row ids y hy

module _ (ids others : List ℕ) where
  pub rows_tell : (p q : Pair) → IsPairOf ids others p → IsPairOf ids others q
      → rows_of ids others p ≡ rows_of ids others q → p ≡ q
  rows_tell p q hp hq e = grind (arith, common_steps, id_tells)

  -- one more key, and one more pair
  pub known_more : (f g : ℕ → Bool) (pairs : List RowPair) (added : Pair) → IsPairOf ids others added
      → ((q : ℕ) → g q ≡ cond (nat_eq (key_of added) q) true (f q))
      → ((p : Pair) → IsPairOf ids others p → IsTrue (f (key_of p)) ↔ Contains pairs (rows_of ids others p))
      → (p : Pair) → IsPairOf ids others p
      → IsTrue (g (key_of p)) ↔ Contains (pairs ++ rows_of ids others added ∷ []) (rows_of ids others p)
  known_more f g pairs added is more known p h =
      ⊎_elim
      (λ (w : (nat_eq (key_of added) (key_of p) ≡ true) × (key_of added ≡ key_of p)).
      let same : added ≡ p = key_tells added p is.small h.small w.1 in (
        λ yes. subst (λ (q : Pair). Contains (pairs ++ rows_of ids others added ∷ []) (rows_of ids others q)) same
            (Contains-push pairs (rows_of ids others added)),
        λ c. more (key_of p) ∙ ap (λ b. cond b true (f (key_of p))) w.0,
      ))
      (λ (w : (nat_eq (key_of added) (key_of p) ≡ false) × ¬ (key_of added ≡ key_of p)).
      let kept : g (key_of p) ≡ f (key_of p) = more (key_of p) ∙ ap (λ b. cond b true (f (key_of p))) w.0 in (
        λ yes. Contains-append_left pairs (rows_of ids others added ∷ []) (rows_of ids others p)
            ((known p h).0 (sym kept ∙ yes)),
        λ c. ⊎_elim (λ (d : Contains pairs (rows_of ids others p)). kept ∙ (known p h).1 d)
            (λ (e : rows_of ids others added ≡ rows_of ids others p).
            absurd (w.1 (ap key_of (rows_tell added p is h e))))
            (Contains-push_cases pairs (rows_of ids others added) (rows_of ids others p) c),
      ))
      (eqb_tells (key_of added) (key_of p))

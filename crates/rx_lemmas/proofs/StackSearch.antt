-- One turn of the search, with an ordered set of what was seen and a stack of what waits.
use Rattle.rx_spec.proofs.Prelude.{common_steps, ◌≡◌, ℕ, Bool, true, false, not, List, [], ◌∷◌, ◌++◌, sum_by, ◌<◌}
use Rattle.rx_spec.proofs.Prelude.{reverse, length, ap, sym, ◌∙◌, subst, arith, nil_from_length, nat_cmp, not-false}
use Rattle.rx_spec.proofs.Prelude.{not-true}
use Rattle.std.proofs.lemmas.List.{reverse-append}
use Rattle.std.specs.BTreeSet.{BTreeSet, contains, Updates}
use Rattle.rx_lemmas.proofs.GraphSearch.{Graph, Notes, Searching, search_passes, search_turns, search_ends}

-- the last of the stack is the first of those that wait
pub popped : (rest : List ℕ) {old : List ℕ} {id : ℕ} → old ≡ rest ++ id ∷ [] → reverse old ≡ id ∷ reverse rest
popped rest {id = id} e = ap (λ l. reverse l) e ∙ reverse-append rest (id ∷ [])

-- ---- the set of what was seen

abbrev pub has : BTreeSet ℕ → ℕ → Bool
has s x = contains nat_cmp s x

notes : (seen then : BTreeSet ℕ) (id : ℕ) → Updates nat_cmp seen then id true → Notes (has seen) (has then) id
notes seen then id u = grind (arith, common_steps)

-- ---- a turn, at the first of those that wait

module _ (g : Graph) where
  -- the row was seen
  pub passed : {target out before others : List ℕ} {id : ℕ} {added : Bool} (seen then : BTreeSet ℕ)
      → Searching g target (has seen) out before → before ≡ id ∷ others → added ≡ not (has seen id)
      → added ≡ false → Updates nat_cmp seen then id true → Searching g target (has then) out others
  passed {target} {out} {id = id} seen then s e a old u =
      let waiting = subst (Searching g target (has seen) out) e s in
      search_passes g (not-false (has seen id) (sym a ∙ old)) (notes seen then id u) waiting

  -- it is new
  pub met : {target out before others : List ℕ} {id : ℕ} {added : Bool} (seen then : BTreeSet ℕ)
      → Searching g target (has seen) out before → before ≡ id ∷ others → added ≡ not (has seen id)
      → added ≡ true → Updates nat_cmp seen then id true
      → Searching g target (has then) (out ++ g.own id) (g.branches id ++ others)
  met {target} {out} {id = id} seen then s e a new u =
      let waiting = subst (Searching g target (has seen) out) e s in
      search_turns g (not-true (has seen id) (sym a ∙ new)) (notes seen then id u) waiting

  -- what is listed then and waits, as it is kept
  pub kept : {target out more waiting after : List ℕ} {seen : ℕ → Bool} → Searching g target seen out waiting
      → more ≡ out → after ≡ waiting → Searching g target seen more after
  kept {target} {out} {after = after} {seen = seen} s listed left = grind (arith, common_steps)

  -- less weight waits
  pub passed_falls : {before others : List ℕ} {id : ℕ} → before ≡ id ∷ others
      → sum_by g.weight others < sum_by g.weight before
  passed_falls {others = others} {id = id} e = grind (arith, common_steps)

  pub met_falls : {before others after : List ℕ} {id : ℕ} → before ≡ id ∷ others
      → after ≡ g.branches id ++ others → sum_by g.weight after < sum_by g.weight before
  met_falls {others = others} {id = id} e left = grind (arith, common_steps)

  -- nothing waits
  pub stopped : (waiting : List ℕ) {target out : List ℕ} {len : ℕ} {seen : ℕ → Bool} → len ≡ length waiting
      → len ≡ 0 → Searching g target seen out (reverse waiting) → out ≡ target
  stopped waiting {target} {out} {seen = seen} e z s =
      let none = nil_from_length waiting (sym e ∙ z) in
      search_ends g (subst (λ l. Searching g target seen out (reverse l)) none s)

-- A search of a graph with flags for what was seen lists what a recursion over the graph lists, first
-- occurrences only.
use Rattle.rx_spec.proofs.Prelude.{common_steps, ◌≡◌, ℕ, ◌<◌, ◌==◌, ◌⊎◌, inl, Bool, true, false, List, [], ◌∷◌, ◌++◌}
use Rattle.rx_spec.proofs.Prelude.{sum_by, refl, ap, sym, ◌∙◌, subst, arith, append_assoc, append-nil, ⊎_elim, or_left}
use Rattle.rx_spec.proofs.Prelude.{or_right, eq-eqb, false_from_ne_true, sum_by-cons, flat_map, list_any, fresh}
use Rattle.std.specs.List.{AllByRecursion as Every}
use Rattle.rx_lemmas.proofs.Every.{every-append, every-weaker}
use Rattle.rx_lemmas.proofs.Firsts.{fresh_alike, fresh_new, fresh_nil, fresh_old}

-- ---- membership, as the test that computes it

abbrev pub In : List ℕ → ℕ → Type 0
In xs x = list_any (λ y. x == y) xs ≡ true

pub in_here : (x : ℕ) (xs : List ℕ) → In (x ∷ xs) x
in_here x xs = or_left (x == x) (list_any (λ y. x == y) xs) (eq-eqb x x refl)

pub in_there : (y x : ℕ) (xs : List ℕ) → In xs x → In (y ∷ xs) x
in_there y x xs h = or_right (x == y) (list_any (λ z. x == z) xs) h

pub in_cases : (y x : ℕ) (xs : List ℕ) → In (y ∷ xs) x → (x ≡ y) ⊎ In xs x
in_cases y x xs h = grind (arith, common_steps)

pub in_nil : (x : ℕ) → In [] x → ⊥
in_nil x h = cc

pub in_left : (xs ys : List ℕ) (x : ℕ) → In xs x → In (xs ++ ys) x
in_left xs ys x h = grind (arith, common_steps)

pub in_right : (xs ys : List ℕ) (x : ℕ) → In ys x → In (xs ++ ys) x
in_right xs ys x h = grind (arith, common_steps)

pub in_split : (xs ys : List ℕ) (x : ℕ) → In (xs ++ ys) x → In xs x ⊎ In ys x
in_split xs ys x h = grind (arith, common_steps)

-- ---- first occurrences behind what was seen

-- what was seen is passed over
pub fresh_skips : (seen xs ys : List ℕ) → ((x : ℕ) → In xs x → In seen x) → fresh seen (xs ++ ys) ≡ fresh seen ys
fresh_skips seen [] ys h = refl
fresh_skips seen (x ∷ xs) ys h =
    fresh_old seen (xs ++ ys) x (h x (in_here x xs)) ∙ fresh_skips seen xs ys (λ y c. h y (in_there x y xs c))

-- a row that is new is listed, behind what is listed already
fresh_lists : (seen xs : List ℕ) (y : ℕ) → (In seen y → ⊥)
    → seen ++ fresh seen (y ∷ xs) ≡ (seen ++ y ∷ []) ++ fresh (seen ++ y ∷ []) xs
fresh_lists seen xs y new = grind (arith, common_steps, fresh_new, false_from_ne_true, fresh_alike)

-- ---- the graph, and the search

-- each of a list weighs less than a bound on the sum
each_lighter : (weight : ℕ → ℕ) (n : ℕ) (xs : List ℕ) → sum_by weight xs < n → Every (λ a. weight a < n) xs
each_lighter weight n [] h = tt
each_lighter weight n (x ∷ xs) h =
    let e = sum_by-cons weight x xs in
    (omega arith, each_lighter weight n xs (omega arith))

-- A graph: what a row lists of itself, where it leads, and what is listed from it on, which leads to
-- lighter rows alone.
pub record Graph : Type 0 where
  pub own : ℕ → List ℕ
  pub branches : ℕ → List ℕ
  pub gives : ℕ → List ℕ
  pub weight : ℕ → ℕ
  pub own_is : (q : ℕ) → (own q ≡ []) ⊎ (own q ≡ q ∷ [])
  pub unfolds : (q : ℕ) → gives q ≡ own q ++ flat_map gives (branches q)
  pub falls : (q : ℕ) → sum_by weight (branches q) < weight q

-- a row is noted among those that were seen, and nothing else changes
pub record Notes (seen then : ℕ → Bool) (q : ℕ) : Type 0 where
  pub now : then q ≡ true
  pub stays : (x : ℕ) → seen x ≡ true → then x ≡ true
  pub only : (x : ℕ) → then x ≡ true → (x ≡ q) ⊎ (seen x ≡ true)

module _ (g : Graph) where
  abbrev all : List ℕ → List ℕ
  all qs = flat_map g.gives qs

  abbrev AllLighter : ℕ → List ℕ → Type 0
  AllLighter q qs = Every (λ a. g.weight a < g.weight q) qs

  -- what a row gives is listed, or comes of some rows
  abbrev GivesWithin : List ℕ → List ℕ → ℕ → Type 0
  GivesWithin out qs p = (x : ℕ) → In (g.gives p) x → In out x ⊎ In (all qs) x

  -- What a seen row gives is listed, or waits in front, among lighter rows.
  pub record Listed (out waiting : List ℕ) (p : ℕ) : Type 0 where
    pub above : List ℕ
    pub below : List ℕ
    pub split : waiting ≡ above ++ below
    pub lighter : AllLighter p above
    pub given : GivesWithin out above p

  -- Between two turns of the search.
  pub record Searching (target : List ℕ) (seen : ℕ → Bool) (out waiting : List ℕ) : Type 0 where
    pub whole : out ++ fresh out (all waiting) ≡ target
    pub noted : (x : ℕ) → In out x → seen x ≡ true
    pub listed : (p : ℕ) → seen p ≡ true → Listed out waiting p

  pub search_ends : {target : List ℕ} {seen : ℕ → Bool} {out : List ℕ} → Searching target seen out [] → out ≡ target
  search_ends {out = out} s = sym (ap (λ l. out ++ l) (fresh_nil out) ∙ append-nil out) ∙ s.whole

  lighter_apart : (q a : ℕ) → q ≡ a → g.weight a < g.weight q → ⊥
  lighter_apart q a e h = let same = ap g.weight e in omega arith

  -- what a seen row in front gives is listed
  seen_listed : (out rest : List ℕ) (q : ℕ) → Listed out (q ∷ rest) q → (x : ℕ) → In (g.gives q) x → In out x
  seen_listed out rest q l = go l.above l.below l.split l.lighter l.given
    where
      go : (above below : List ℕ) → q ∷ rest ≡ above ++ below → AllLighter q above → GivesWithin out above q
          → (x : ℕ) → In (g.gives q) x → In out x
      go [] below split lighter given x h = ⊎_elim (λ a. a) (λ b. absurd (in_nil x b)) (given x h)
      go (a ∷ above) below split lighter given x h = absurd (lighter_apart q a (cc) lighter.0)

  lighter_than : (b q a p : ℕ) → q ≡ a → g.weight b < g.weight q → g.weight a < g.weight p → g.weight b < g.weight p
  lighter_than b q a p e k m = let same = ap g.weight e in omega arith

  -- what the row in front and others give comes of where it leads and of them
  spread : (out ways above : List ℕ) (q : ℕ) → GivesWithin out ways q → (x : ℕ)
      → In (g.gives q ++ all above) x → In out x ⊎ In (all (ways ++ above)) x
  spread out ways above q from x h = grind (arith, common_steps, in_left)

  -- what waits in front of it gives way to where the row in front leads
  turned : {out rest : List ℕ} {p q : ℕ} (ways more : List ℕ) → GivesWithin (out ++ more) ways q
      → AllLighter q ways → Listed out (q ∷ rest) p → Listed (out ++ more) (ways ++ rest) p
  turned {out} {rest} {p} {q} ways more from light l = go l.above l.below l.split l.lighter l.given
    where
      go : (above below : List ℕ) → q ∷ rest ≡ above ++ below → AllLighter p above → GivesWithin out above p
          → Listed (out ++ more) (ways ++ rest) p
      go [] below split lighter given = grind (arith, common_steps)
      go (a ∷ above) below split lighter given =
          let same : q ≡ a = cc in
          let others : rest ≡ above ++ below = cc in
          let below_q = λ (b : ℕ). g.weight b < g.weight q in
          let below_p = λ (b : ℕ). g.weight b < g.weight p in
          let lighter_ways = every-weaker below_q below_p ways (λ b k. lighter_than b q a p same k lighter.0) light in
          let from_a = subst (GivesWithin (out ++ more) ways) same from in
          record {
            above = ways ++ above;
            below = below;
            split = ap (λ l. ways ++ l) others ∙ sym (append_assoc ways above below);
            lighter = every-append below_p ways above lighter_ways lighter.1;
            given =
                λ x h. ⊎_elim
                (λ k. inl (in_left out more x k))
                (λ k. spread (out ++ more) ways above a from_a x k)
                (given x h);
          }

  no_more : {out rest : List ℕ} {p : ℕ} → Listed (out ++ []) rest p → Listed out rest p
  no_more {out} {rest} {p} l = subst (λ o. Listed o rest p) (append-nil out) l

  -- A row that was seen is passed over.
  pub search_passes : {target : List ℕ} {seen then : ℕ → Bool} {out rest : List ℕ} {q : ℕ} → seen q ≡ true
      → Notes seen then q → Searching target seen out (q ∷ rest) → Searching target then out rest
  search_passes {seen = seen} {then = then} {out = out} {rest = rest} {q = q} old notes s =
      record {
        whole = ap (λ l. out ++ l) (sym (fresh_skips out (g.gives q) (all rest) listed_q)) ∙ s.whole;
        noted = λ x h. notes.stays x (s.noted x h);
        listed = λ p h. no_more (turned [] [] from tt (s.listed p (was_seen p h)));
      }
    where
      listed_q : (x : ℕ) → In (g.gives q) x → In out x
      listed_q = seen_listed out rest q (s.listed q old)

      from : GivesWithin (out ++ []) [] q
      from x k = inl (in_left out [] x (listed_q x k))

      was_seen : (p : ℕ) → then p ≡ true → seen p ≡ true
      was_seen p h = ⊎_elim (λ e. subst (λ v. seen v ≡ true) (sym e) old) (λ o. o) (notes.only p h)

  -- the row in front is listed, and gives way to where it leads
  whole_turned : (out rest : List ℕ) (q : ℕ) → (In out q → ⊥)
      → out ++ fresh out (g.gives q ++ all rest)
      ≡ (out ++ g.own q) ++ fresh (out ++ g.own q) (all (g.branches q ++ rest))
  whole_turned out rest q new = grind (arith, common_steps, append_assoc, fresh_lists)

  -- A row that is new is noted as seen, and gives way to where it leads.
  pub search_turns : {target : List ℕ} {seen then : ℕ → Bool} {out rest : List ℕ} {q : ℕ} → seen q ≡ false
      → Notes seen then q → Searching target seen out (q ∷ rest)
      → Searching target then (out ++ g.own q) (g.branches q ++ rest)
  search_turns {seen = seen} {then = then} {out = out} {rest = rest} {q = q} new notes s = record {
    whole = sym (whole_turned out rest q unlisted) ∙ s.whole;
    noted = noted;
    listed =
        λ p h. ⊎_elim
        (λ e. here p e)
        (λ o. turned (g.branches q) (g.own q) from light (s.listed p o))
        (notes.only p h);
  }
    where
      light : AllLighter q (g.branches q)
      light = each_lighter g.weight (g.weight q) (g.branches q) (g.falls q)

      unlisted : In out q → ⊥
      unlisted h = let old : seen q ≡ true = s.noted q h in cc

      noted : (x : ℕ) → In (out ++ g.own q) x → then x ≡ true
      noted x h = grind (arith, common_steps)

      from : GivesWithin (out ++ g.own q) (g.branches q) q
      from x h = grind (arith, common_steps)

      here : (p : ℕ) → p ≡ q → Listed (out ++ g.own q) (g.branches q ++ rest) p
      here p e = grind (arith, common_steps, light)

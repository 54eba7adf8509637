-- How the code splits rows into own ones and the lead-in's others, and how many these are.
use Rattle.rx_spec.proofs.Prelude.{common_steps, ◌≡◌, ℕ, not, ◌+◌, ◌-◌, ◌<◌, ◌≤◌, ◌==◌, Bool, true, false, List, []}
use Rattle.rx_spec.proofs.Prelude.{◌∷◌, length, take, drop, get_or, sum_by, ap, ap₂, sym, ◌∙◌, arith, subst, ⊎_elim}
use Rattle.rx_spec.proofs.Prelude.{drop_of_length-le, eqb-true, false_from_ne_true, drop_more, take_all, take_more}
use Rattle.rx_spec.proofs.Prelude.{bytes_eq-Decides, both_ways, bytes_eq}
use Rattle.rx_stepper.proofs.Prelude.{Apart, bit, by_test, led, split_by, without, written_as}
use Rattle.std.specs.List.{AllByRecursion as Every}
use Rattle.rx_stepper.proofs.Members.{In, in_cases, in_nil, was}
use Rattle.rx_stepper.proofs.Without.{length_without, without_nil, without_old, without_new}
use Rattle.rx_stepper.proofs.WrittenRows.{split_here, split_later, split_nowhere}

-- ---- fronts, one after another

-- nothing follows the fronts that are shorter
pub record IsSplitFrom (lead rows : List ℕ) (len : ℕ) : Type 0 where
  pub open_still : len ≤ length rows → split_by lead [] rows ≡ split_by lead (take len rows) (drop len rows)
  pub over : length rows < len → split_by lead [] rows ≡ written_as false rows

pub split_begins : (lead rows : List ℕ) → IsSplitFrom lead rows 0
split_begins lead rows = grind (arith, common_steps)

module _ {lead rows : List ℕ} {len : ℕ} (s : IsSplitFrom lead rows len) (h : len ≤ length rows) where
  pub split_found : {b : Bool} → b ≡ bytes_eq (without (take len rows) lead) (drop len rows) → b ≡ true
      → split_by lead [] rows ≡ written_as true (take len rows)
  split_found e t = grind (arith, common_steps, split_here, bytes_eq-Decides)

  pub split_passed : {b : Bool} → b ≡ bytes_eq (without (take len rows) lead) (drop len rows) → b ≡ false
      → IsSplitFrom lead rows (len + 1)
  split_passed e t = record {
    open_still = λ k.
        let more = drop_more rows len 0 (omega arith) in
        let longer = take_more rows len 0 (omega arith) in
        s.open_still h
        ∙ ap (split_by lead (take len rows)) more
        ∙ split_later lead (take len rows) (drop (len + 1) rows) (get_or rows len 0)
        (ap (bytes_eq (without (take len rows) lead)) (sym more) ∙ sym e ∙ t)
        ∙ ap (λ f. split_by lead f (drop (len + 1) rows)) (sym longer);
    over = λ k.
        let all : take len rows ≡ rows = take_all len rows (omega arith) in
        let none : drop len rows ≡ [] = drop_of_length-le rows (omega arith) in
        s.open_still h
        ∙ ap₂ (λ f r. split_by lead f r) all none
        ∙ split_nowhere lead rows
        (ap₂ (λ f r. bytes_eq (without f lead) r) (sym all) (sym none) ∙ sym e ∙ t);
  }

pub every_in : (P : ℕ → Type 0) (xs : List ℕ) {q : ℕ} → Every P xs → In xs q → P q
every_in P [] {q} h i = absurd (in_nil q i)
every_in P (x ∷ xs) {q} h i =
    ⊎_elim (λ (s : q ≡ x). subst P (sym s) h.0) (λ (o : In xs q). every_in P xs h.1 o) (in_cases x q xs i)

-- ---- whether rows are what is left of the lead-in's

pub equal : (a b : ℕ) {r : Bool} → r ≡ not (a == b) → r ≡ false → a ≡ b
equal a b e t = by_test (a == b) (λ h. eqb-true a b h) (λ h. absurd (cc))

-- a row that is among the own ones is left out
pub follows_passed : (own lead : List ℕ) (i : ℕ) {q : ℕ} (others : List ℕ) → i < length lead → q ≡ get_or lead i q
    → was own q ≡ true
    → bytes_eq (without own (drop i lead)) others ≡ bytes_eq (without own (drop (i + 1) lead)) others
follows_passed own lead i {q} others h e t = grind (arith, common_steps, without_old)

module _ (own lead : List ℕ) (i : ℕ) {q : ℕ} (rows : List ℕ) (place : ℕ) (h : i < length lead) (e : q ≡ get_or lead i q)
    (new : was own q ≡ false) where
  first_left : without own (drop i lead) ≡ q ∷ without own (drop (i + 1) lead)
  first_left = grind (arith, common_steps, without_new)

  -- another is missing where no row is left
  pub follows_short : length rows ≤ place → bytes_eq (without own (drop i lead)) (drop place rows) ≡ false
  follows_short past = grind (arith, common_steps, first_left)

  module _ {x : ℕ} (within : place < length rows) (is : x ≡ get_or rows place x) where
    rest : drop place rows ≡ x ∷ drop (place + 1) rows
    rest = drop_more rows place x within ∙ ap (λ v. v ∷ drop (place + 1) rows) (sym is)

    -- or where the next one is another
    pub follows_other : (x ≡ q → ⊥) → bytes_eq (without own (drop i lead)) (drop place rows) ≡ false
    follows_other other =
        false_from_ne_true _
        (λ t. let same = sym first_left ∙ (bytes_eq-Decides (without own (drop i lead)) (drop place rows)).0 t ∙ rest in
        other (sym (head_same same)))
      where
        head_same : {a b : ℕ} {xs ys : List ℕ} → a ∷ xs ≡ b ∷ ys → a ≡ b
        head_same s = cc

    pub follows_next : x ≡ q → bytes_eq (without own (drop i lead)) (drop place rows)
        ≡ bytes_eq (without own (drop (i + 1) lead)) (drop (place + 1) rows)
    follows_next same =
        both_ways _ _
        (λ t. (bytes_eq-Decides _ _).1
        (tail_same (sym first_left ∙ (bytes_eq-Decides (without own (drop i lead)) (drop place rows)).0 t ∙ rest)))
        (λ t. (bytes_eq-Decides _ _).1
        (first_left ∙ ap₂ (λ a l. a ∷ l) (sym same)
        ((bytes_eq-Decides (without own (drop (i + 1) lead)) (drop (place + 1) rows)).0 t)
        ∙ sym rest))
      where
        tail_same : {a b : ℕ} {xs ys : List ℕ} → a ∷ xs ≡ b ∷ ys → xs ≡ ys
        tail_same s = cc

-- all of the lead-in's rows were gone through
pub follows_ends : (own lead rows : List ℕ) {i : ℕ} (place : ℕ) → length lead ≤ i → place ≤ length rows
    → bytes_eq (without own (drop i lead)) (drop place rows) ≡ (place == length rows)
follows_ends own lead rows {i} place past within = grind (arith, common_steps, drop_of_length-le, without_nil)

-- ---- how many rows of the lead-in are among the own ones

module _ (lead own : List ℕ) where
  abbrev counts : ℕ → ℕ
  counts q = bit (was lead q)

  pub shared_more : (i : ℕ) {q : ℕ} → i < length own → q ≡ get_or own i q
      → sum_by counts (take (i + 1) own) ≡ sum_by counts (take i own) + counts q
  shared_more i {q} h e = grind (arith, common_steps)

  pub shared_within : (i : ℕ) → sum_by counts (take i own) ≤ sum_by counts own
  shared_within i = grind (arith, common_steps)

  -- Each row of the own ones that is one of the lead-in's is one that doesn't follow.
  pub shared_left : (i : ℕ) {q others : ℕ} → Apart own → Apart lead → i < length own → q ≡ get_or own i q
      → was lead q ≡ true → others + sum_by counts (take i own) ≡ length lead → 1 ≤ others
  shared_left i {q} {others} a b h e w inv =
      omega (arith, shared_more i h e, ap bit w, shared_within (i + 1), length_without own lead a b)

  pub shared_all : (i others : ℕ) → Apart own → Apart lead → length own ≤ i
      → others + sum_by counts (take i own) ≡ length lead → length own + others ≡ length (led own lead)
  shared_all i others a b h inv = grind (arith, common_steps, length_without)

-- Steps of rows that end with those of the lead-in: assertions are decided, and matches cut, in both lists by
-- themselves.
use Rattle.rx_spec.proofs.Prelude.{arith, ◌≡◌, ℕ, ◌==◌, ◌||◌, Bool, true, false, if◌then◌else◌, List, [], ◌∷◌, ◌++◌}
use Rattle.rx_spec.proofs.Prelude.{refl, ap, ap₂, sym, ◌∙◌, subst, ⊎_elim, common_steps, false_from_ne_true, or_left}
use Rattle.rx_spec.proofs.Prelude.{or_right, or_cases, flat_map, list_any, Row, Passing, row_at, is_match_row}
use Rattle.rx_spec.proofs.Prelude.{to_first_match, cut, pattern_of}
use Rattle.rx_stepper.proofs.Prelude.{MatchKind, by_test, closed_rows, goes_on, led, matches_of, without}
use Rattle.rx_stepper.proofs.Members.{In, in_cases, in_nil, was}
use Rattle.rx_stepper.proofs.Without.{without_nil, without_old, without_new, firsts_joined, led_gives}
use Rattle.rx_lemmas.proofs.FirstMatch.{first_here, first_later, pattern_of-none}

-- what is closed in both lists
pub closed_led : (rows : List Row) (pass : Passing) (own lead : List ℕ)
    → closed_rows rows pass (led own lead) ≡ led (closed_rows rows pass own) (closed_rows rows pass lead)
closed_led rows pass own lead = grind (arith, common_steps, led_gives, firsts_joined)

-- the rows that are reached from joined lists
pub closed_joined : (rows : List Row) (pass : Passing) (xs ys : List ℕ)
    → closed_rows rows pass (xs ++ ys) ≡ led (closed_rows rows pass xs) (closed_rows rows pass ys)
closed_joined rows pass xs ys = grind (arith, common_steps, firsts_joined)

-- a test of joined rows
module _ (p : ℕ → Bool) where
  none_in : (own : List ℕ) (x : ℕ) → list_any p own ≡ false → In own x → p x ≡ false
  none_in [] x h i = absurd (in_nil x i)
  none_in (y ∷ ys) x h i =
      ⊎_elim
      (λ (s : x ≡ y). false_from_ne_true (p x) (λ t. let v = or_left (p y) (list_any p ys) (ap p (sym s) ∙ t) in cc))
      (λ (o : In ys x). none_in ys x
      (false_from_ne_true (list_any p ys) (λ t. let v = or_right (p y) (list_any p ys) t in cc)) o)
      (in_cases y x ys i)

  any_without : (own lead : List ℕ) → list_any p own ≡ false → list_any p (without own lead) ≡ list_any p lead
  any_without own [] h = ap (list_any p) (without_nil own)
  any_without own (x ∷ xs) h =
      by_test (was own x)
      (λ e. ap (list_any p) (without_old own xs x e) ∙ any_without own xs h
      ∙ sym (ap (λ b. b || list_any p xs) (none_in own x h e)))
      (λ e. ap (list_any p) (without_new own xs x e) ∙ ap (λ b. p x || b) (any_without own xs h))

  pub any_led : (own lead : List ℕ) → list_any p (led own lead) ≡ (list_any p own || list_any p lead)
  any_led own lead = grind (arith, common_steps, any_without)

module _ (rows : List Row) where
  abbrev matches : List ℕ → Bool
  matches qs = list_any (λ q. is_match_row (row_at rows q)) qs

  -- ---- the first match

  first_none : to_first_match rows [] ≡ []
  unfolding to_first_match
  first_none = refl

  head_plain : (q : ℕ) (qs : List ℕ) → matches (q ∷ qs) ≡ false → is_match_row (row_at rows q) ≡ false
  head_plain q qs h = grind (arith, common_steps)

  rest_plain : (q : ℕ) (qs : List ℕ) → matches (q ∷ qs) ≡ false → matches qs ≡ false
  rest_plain q qs h = grind (arith, common_steps)

  member_plain : (qs : List ℕ) (x : ℕ) → matches qs ≡ false → In qs x → is_match_row (row_at rows x) ≡ false
  member_plain [] x h i = absurd (in_nil x i)
  member_plain (q ∷ qs) x h i =
      ⊎_elim
      (λ (e : x ≡ q). subst (λ v. is_match_row (row_at rows v) ≡ false) (sym e) (head_plain q qs h))
      (λ (k : In qs x). member_plain qs x (rest_plain q qs h) k)
      (in_cases q x qs i)

  -- it stands in the first list, or behind it
  first_in_front : (xs ys : List ℕ) → matches xs ≡ true → to_first_match rows (xs ++ ys) ≡ to_first_match rows xs
  first_in_front [] ys h = absurd (cc)
  first_in_front (x ∷ xs) ys h =
      by_test (is_match_row (row_at rows x)) (λ e. first_here rows x (xs ++ ys) e ∙ sym (first_here rows x xs e))
      (λ e. first_later rows x (xs ++ ys) e
      ∙ ap (λ (l : List ℕ). x ∷ l)
      (first_in_front xs ys
      (⊎_elim (λ (t : is_match_row (row_at rows x) ≡ true). absurd (cc)) (λ (t : matches xs ≡ true). t)
      (or_cases (is_match_row (row_at rows x)) (matches xs) h)))
      ∙ sym (first_later rows x xs e))

  first_behind : (xs ys : List ℕ) → matches xs ≡ false → to_first_match rows (xs ++ ys) ≡ xs ++ to_first_match rows ys
  first_behind [] ys h = refl
  first_behind (x ∷ xs) ys h =
      first_later rows x (xs ++ ys) (head_plain x xs h)
      ∙ ap (λ (l : List ℕ). x ∷ l) (first_behind xs ys (rest_plain x xs h))

  -- leaving out rows that don't match leaves it where it is
  first_without : (seen xs : List ℕ) → matches seen ≡ false
      → to_first_match rows (without seen xs) ≡ without seen (to_first_match rows xs)
  first_without seen [] h = grind (arith, common_steps, without_nil, first_none)
  first_without seen (x ∷ xs) h =
      by_test (was seen x)
      (λ e. ap (to_first_match rows) (without_old seen xs x e) ∙ first_without seen xs h
      ∙ sym (ap (without seen) (first_later rows x xs (member_plain seen x h e))
      ∙ without_old seen (to_first_match rows xs) x e))
      (λ e. ap (to_first_match rows) (without_new seen xs x e)
      ∙ by_test (is_match_row (row_at rows x))
      (λ m. first_here rows x (without seen xs) m
      ∙ sym (ap (without seen) (first_here rows x xs m) ∙ without_new seen [] x e
      ∙ ap (λ (l : List ℕ). x ∷ l) (without_nil seen)))
      (λ m. first_later rows x (without seen xs) m ∙ ap (λ (l : List ℕ). x ∷ l) (first_without seen xs h)
      ∙ sym (ap (without seen) (first_later rows x xs m) ∙ without_new seen (to_first_match rows xs) x e)))

  -- ---- the matches that go on, and whether what is less preferred goes on too

  matches_nil : (qs : List ℕ) → matches qs ≡ false → matches_of rows qs ≡ []
  matches_nil [] h = refl
  matches_nil (q ∷ qs) h =
      ap (λ b. if b then q ∷ matches_of rows qs else matches_of rows qs) (head_plain q qs h)
      ∙ matches_nil qs (rest_plain q qs h)

  cut_plain : (qs : List ℕ) → matches qs ≡ false → to_first_match rows qs ≡ qs
  cut_plain [] h = first_none
  cut_plain (q ∷ qs) h =
      first_later rows q qs (head_plain q qs h) ∙ ap (λ (l : List ℕ). q ∷ l) (cut_plain qs (rest_plain q qs h))

  cut_none : (qs : List ℕ) → matches_of rows (to_first_match rows qs) ≡ [] → matches qs ≡ false
  cut_none [] h = refl
  cut_none (q ∷ qs) h =
      by_test (is_match_row (row_at rows q))
      (λ e. absurd (let t = sym (ap (λ b. if b then q ∷ [] else []) e)
      ∙ sym (ap (matches_of rows) (first_here rows q qs e)) ∙ h in cc))
      (λ e. ap₂ (λ (a b : Bool). a || b) e
      (cut_none qs
      (sym (ap (λ b. if b then q ∷ matches_of rows (to_first_match rows qs) else matches_of rows
      (to_first_match rows qs)) e)
      ∙ sym (ap (matches_of rows) (first_later rows q qs e)) ∙ h)))

  cut_some : (qs : List ℕ) (x : ℕ) (xs : List ℕ) → matches_of rows (to_first_match rows qs) ≡ x ∷ xs
      → matches qs ≡ true
  cut_some qs x xs h = grind (arith, common_steps, matches_nil, cut_plain)

  -- The cut falls in the own rows, or in those of the lead-in.
  pub cut_led : (kind : MatchKind) (own lead : List ℕ) → goes_on kind (matches_of rows (cut kind rows own)) ≡ true
      → cut kind rows (led own lead) ≡ led (cut kind rows own) (cut kind rows lead)
  cut_led kind own lead h = grind (arith, common_steps, cut_none, first_behind, cut_plain, first_without)

  pub cut_led_off : (kind : MatchKind) (own lead : List ℕ) → goes_on kind (matches_of rows (cut kind rows own)) ≡ false
      → cut kind rows (led own lead) ≡ cut kind rows own
  cut_led_off kind own lead h = grind (arith, common_steps, first_in_front, cut_some)

  -- ---- labels

  abbrev pub patterns : List ℕ → List ℕ
  patterns qs = flat_map (λ q. pattern_of (row_at rows q)) qs

  pub patterns_matches : (qs : List ℕ) → patterns (matches_of rows qs) ≡ patterns qs
  patterns_matches [] = refl
  patterns_matches (q ∷ qs) =
      by_test (is_match_row (row_at rows q))
      (λ e. ap (λ b. patterns (if b then q ∷ matches_of rows qs else matches_of rows qs)) e
      ∙ ap (λ (l : List ℕ). pattern_of (row_at rows q) ++ l) (patterns_matches qs))
      (λ e. ap (λ b. patterns (if b then q ∷ matches_of rows qs else matches_of rows qs)) e
      ∙ patterns_matches qs
      ∙ sym (ap (λ (l : List ℕ). l ++ patterns qs) (pattern_of-none (row_at rows q) e)))

  -- a match is a member of the matches where it is one of all
  match_in : (seen : List ℕ) (x : ℕ) → is_match_row (row_at rows x) ≡ true
      → was seen x ≡ was (matches_of rows seen) x
  match_in [] x m = refl
  match_in (y ∷ ys) x m =
      by_test (is_match_row (row_at rows y))
      (λ e. ap (λ b. (x == y) || b) (match_in ys x m)
      ∙ sym (ap (λ b. was (if b then y ∷ matches_of rows ys else matches_of rows ys) x) e))
      (λ e. ap₂ (λ (a b : Bool). a || b) (other y e) (match_in ys x m)
      ∙ sym (ap (λ b. was (if b then y ∷ matches_of rows ys else matches_of rows ys) x) e))
    where
      other : (y : ℕ) → is_match_row (row_at rows y) ≡ false → (x == y) ≡ false
      other y e = grind (arith, common_steps)

  pub patterns_without : (seen qs : List ℕ)
      → patterns (without seen qs) ≡ patterns (without (matches_of rows seen) (matches_of rows qs))
  patterns_without seen [] = grind (arith, common_steps, without_nil)
  patterns_without seen (x ∷ xs) =
      by_test (is_match_row (row_at rows x))
      (λ m. by_test (was seen x)
      (λ e. ap patterns (without_old seen xs x e) ∙ patterns_without seen xs
      ∙ sym (ap patterns (ap (λ b. without (matches_of rows seen)
      (if b then x ∷ matches_of rows xs else matches_of rows xs)) m
      ∙ without_old (matches_of rows seen) (matches_of rows xs) x (sym (match_in seen x m) ∙ e))))
      (λ e. ap patterns (without_new seen xs x e)
      ∙ ap (λ (l : List ℕ). pattern_of (row_at rows x) ++ l) (patterns_without seen xs)
      ∙ sym (ap patterns (ap (λ b. without (matches_of rows seen)
      (if b then x ∷ matches_of rows xs else matches_of rows xs)) m
      ∙ without_new (matches_of rows seen) (matches_of rows xs) x (sym (match_in seen x m) ∙ e)))))
      (λ m. let nothing = pattern_of-none (row_at rows x) m in
      let rest = ap (λ b. patterns (without (matches_of rows seen)
      (if b then x ∷ matches_of rows xs else matches_of rows xs))) m in
      by_test (was seen x)
      (λ e. ap patterns (without_old seen xs x e) ∙ patterns_without seen xs ∙ sym rest)
      (λ e. ap patterns (without_new seen xs x e)
      ∙ ap (λ (l : List ℕ). l ++ patterns (without seen xs)) nothing
      ∙ patterns_without seen xs ∙ sym rest))

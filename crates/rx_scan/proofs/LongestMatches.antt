-- The longest of what is told: what is told later ends later, and of a row's patterns the lowest is it.
use Rattle.rx_spec.proofs.Prelude.{common_steps, ◌≡◌, ℕ, ◌<◌, ◌≤◌, Bool, true, false, if◌then◌else◌, Option, Some, None}
use Rattle.rx_spec.proofs.Prelude.{List, [], ◌∷◌, ◌++◌, refl, ap, sym, ◌∙◌, subst, arith, ⊎_elim, ◌⊎◌, inl, ltb-true}
use Rattle.rx_spec.proofs.Prelude.{ltb-false, or_right, eqb-true, and_parts, All-nil, All-cons, nat_lt, Contains}
use Rattle.rx_spec.proofs.Prelude.{option_or, HalfMatch, Item, pattern_items}
use Rattle.rx_lemmas.proofs.Firsts.{by_test, Contains-here, Contains-there, Contains-cases, Contains-nil}
use Rattle.rx_meaning.proofs.PastOffsets.{AllPast}
use Rattle.rx_scan.specs.Tokens.{comes_before, first_of_two, longest}
use Rattle.rx_scan.specs.Walks.{IsLowest}

-- ---- one item more

pub longest-nil : (p : ℕ) → longest p [] ≡ None
unfolding longest
longest-nil p = refl

pub longest_skips : (p : ℕ) (items : List Item) → longest p (Item.Skipped ∷ items) ≡ longest p items
unfolding longest
longest_skips p items = refl

pub longest_past : (p : ℕ) (m : HalfMatch) (items : List Item) → p < m.offset
    → longest p (Item.Reported m ∷ items) ≡ first_of_two m (longest p items)
unfolding longest
longest_past p m items h = grind (arith, common_steps)

pub longest_empty : (p : ℕ) (m : HalfMatch) (items : List Item) → m.offset ≤ p
    → longest p (Item.Reported m ∷ items) ≡ longest p items
unfolding longest
longest_empty p m items h = grind (arith, common_steps)

first_is : (m : HalfMatch) (o : Option HalfMatch) (n : HalfMatch) → first_of_two m o ≡ Some n
    → ((m ≡ n) ⊎ (o ≡ Some n))
first_is m None n e = inl (cc)
first_is m (Some k) n e = grind (arith, common_steps)

-- the longest of a place ends past it
pub longest_ends : (p : ℕ) (items : List Item) (n : HalfMatch) → longest p items ≡ Some n → p < n.offset
longest_ends p [] n e = absurd (let none = sym (longest-nil p) ∙ e in cc)
longest_ends p (Item.Skipped ∷ items) n e = longest_ends p items n (sym (longest_skips p items) ∙ e)
longest_ends p (Item.Reported m ∷ items) n e =
    by_test (nat_lt p m.offset)
    (λ b. let past = ltb-true p m.offset b in
    ⊎_elim
    (λ (same : m ≡ n). subst (λ (k : HalfMatch). p < k.offset) same past)
    (λ (later : longest p items ≡ Some n). longest_ends p items n later)
    (first_is m (longest p items) n (sym (longest_past p m items past) ∙ e)))
    (λ b. longest_ends p items n (sym (longest_empty p m items (ltb-false p m.offset b)) ∙ e))

-- and past what all of them are past
pub longest_later : (p o : ℕ) (items : List Item) (n : HalfMatch) → AllPast o items → longest p items ≡ Some n
    → o < n.offset
longest_later p o [] n all e = absurd (let none = sym (longest-nil p) ∙ e in cc)
longest_later p o (Item.Skipped ∷ items) n all e = longest_later p o items n all.1 (sym (longest_skips p items) ∙ e)
longest_later p o (Item.Reported m ∷ items) n all e =
    by_test (nat_lt p m.offset)
    (λ b. ⊎_elim
    (λ (same : m ≡ n). subst (λ (k : HalfMatch). o < k.offset) same all.0)
    (λ (later : longest p items ≡ Some n). longest_later p o items n all.1 later)
    (first_is m (longest p items) n (sym (longest_past p m items (ltb-true p m.offset b)) ∙ e)))
    (λ b. longest_later p o items n all.1 (sym (longest_empty p m items (ltb-false p m.offset b)) ∙ e))

-- ---- a row's patterns, and what is told behind them

later_first : (m n : HalfMatch) → m.offset < n.offset → first_of_two m (Some n) ≡ Some n
later_first m n h = grind (arith, common_steps)

two_later : (m : HalfMatch) (later here : Option HalfMatch) → ((n : HalfMatch) → later ≡ Some n → m.offset < n.offset)
    → first_of_two m (option_or later here) ≡ option_or later (first_of_two m here)
two_later m None here past = refl
two_later m (Some n) here past = later_first m n (past n refl)

pub longest_append : (p o : ℕ) (ks : List ℕ) (later : List Item) → AllPast o later
    → longest p (pattern_items ks o ++ later) ≡ option_or (longest p later) (longest p (pattern_items ks o))
longest_append p o [] later past = grind (arith, common_steps, longest-nil)
longest_append p o (k ∷ ks) later past =
    let m : HalfMatch = record { pattern = k; offset = o } in
    let here = longest p (pattern_items ks o) in
    by_test (nat_lt p o)
    (λ b. let above = ltb-true p o b in
    longest_past p m (pattern_items ks o ++ later) above
    ∙ ap (first_of_two m) (longest_append p o ks later past)
    ∙ two_later m (longest p later) here (λ n e. longest_later p o later n past e)
    ∙ ap (option_or (longest p later)) (sym (longest_past p m (pattern_items ks o) above)))
    (λ b. let low = ltb-false p o b in
    longest_empty p m (pattern_items ks o ++ later) low ∙ longest_append p o ks later past
    ∙ ap (option_or (longest p later)) (sym (longest_empty p m (pattern_items ks o) low)))

-- none of them, where they end at the place
pub longest_here : (p : ℕ) (ks : List ℕ) → longest p (pattern_items ks p) ≡ None
longest_here p [] = longest-nil p
longest_here p (k ∷ ks) =
    longest_empty p (record { pattern = k; offset = p }) (pattern_items ks p) (omega arith) ∙ longest_here p ks

-- of the patterns of an offset the lowest
lower : (a b o : ℕ) → a < b
    → first_of_two (record { pattern = b; offset = o }) (Some (record { pattern = a; offset = o }))
    ≡ Some (record { pattern = a; offset = o })
lower a b o h = grind (arith, common_steps, or_right)

not_lower : (a b o : ℕ) → b ≤ a
    → first_of_two (record { pattern = b; offset = o }) (Some (record { pattern = a; offset = o }))
    ≡ Some (record { pattern = b; offset = o })
not_lower a b o h = grind (arith, common_steps)

pub longest_row : (p o : ℕ) (k : ℕ) (ks : List ℕ) → p < o
    → (j : ℕ) × (longest p (pattern_items (k ∷ ks) o) ≡ Some (record { pattern = j; offset = o })) × IsLowest (k ∷ ks) j
longest_row p o k [] h = (
  k,
  longest_past p (record { pattern = k; offset = o }) [] h
      ∙ ap (first_of_two (record { pattern = k; offset = o })) (longest-nil p),
  record {
    there = Contains-here k [];
    least = All-cons (λ j. k ≤ j) k [] (omega arith) (All-nil (λ j. k ≤ j));
  },
)
longest_row p o k (i ∷ ks) h =
    let m : HalfMatch = record { pattern = k; offset = o } in
    let others = longest_row p o i ks h in
    let j = others.0 in
    let is = others.2 in
    let on = longest_past p m (pattern_items (i ∷ ks) o) h ∙ ap (first_of_two m) others.1 in
    by_test (nat_lt j k)
    (λ b. let below = ltb-true j k b in (
      j,
      on ∙ lower j k o below,
      record {
        there = Contains-there k (i ∷ ks) j is.there;
        least = All-cons (λ x. j ≤ x) k (i ∷ ks) (omega arith) is.least;
      },
    ))
    (λ b. let above = ltb-false j k b in (
      k,
      on ∙ not_lower j k o above,
      record {
        there = Contains-here k (i ∷ ks);
        least = grind (arith, common_steps);
      },
    ))

-- so the longest of a row's matches is of that one
pub longest_lowest : (p o : ℕ) (ks : List ℕ) (k : ℕ) → p < o → IsLowest ks k
    → longest p (pattern_items ks o) ≡ Some (record { pattern = k; offset = o })
longest_lowest p o [] k h is = absurd (Contains-nil k is.there)
longest_lowest p o (i ∷ ks) k h is =
    let row = longest_row p o i ks h in
    grind (arith, common_steps)

-- ---- what the longest is among them

-- a match that another doesn't come before
pub record NotAfter (m n : HalfMatch) : Type 0 where
  pub longer : n.offset ≤ m.offset
  pub lower : n.offset ≡ m.offset → m.pattern ≤ n.pattern

not_after_self : (m : HalfMatch) → NotAfter m m
not_after_self m = record { longer = omega arith; lower = λ e. omega arith }

not_after : (a b c : HalfMatch) → NotAfter a b → NotAfter b c → NotAfter a c
not_after a b c x y = grind (arith, common_steps)

two_first : (m : HalfMatch) (o : Option HalfMatch) (n : HalfMatch) → first_of_two m o ≡ Some n
    → NotAfter n m × ((k : HalfMatch) → o ≡ Some k → NotAfter n k)
two_first m None n e = grind (arith, common_steps)
two_first m (Some k) n e =
    grind (arith, common_steps, by_test, not_after_self, ltb-true, lower, and_parts, eqb-true)

pub longest_there : (p : ℕ) (items : List Item) (m : HalfMatch) → longest p items ≡ Some m
    → Contains items (Item.Reported m)
longest_there p [] m e = absurd (let none = sym (longest-nil p) ∙ e in cc)
longest_there p (Item.Skipped ∷ items) m e =
    Contains-there Item.Skipped items (Item.Reported m) (longest_there p items m (sym (longest_skips p items) ∙ e))
longest_there p (Item.Reported n ∷ items) m e =
    by_test (nat_lt p n.offset)
    (λ b. ⊎_elim
    (λ (same : n ≡ m). grind (arith, common_steps))
    (λ (later : longest p items ≡ Some m).
    Contains-there (Item.Reported n) items (Item.Reported m) (longest_there p items m later))
    (first_is n (longest p items) m (sym (longest_past p n items (ltb-true p n.offset b)) ∙ e)))
    (λ b. Contains-there (Item.Reported n) items (Item.Reported m)
    (longest_there p items m (sym (longest_empty p n items (ltb-false p n.offset b)) ∙ e)))

reported_same : (m n : HalfMatch) → Item.Reported m ≡ Item.Reported n → m ≡ n
reported_same m n e = cc

-- where there is one past the place, there is a longest
pub some_longest : (p : ℕ) (items : List Item) (n : HalfMatch) → Contains items (Item.Reported n) → p < n.offset
    → (m : HalfMatch) × (longest p items ≡ Some m) × NotAfter m n
some_longest p [] n c h = absurd (Contains-nil (Item.Reported n) c)
some_longest p (Item.Skipped ∷ items) n c h =
    ⊎_elim
    (λ (same : Item.Skipped ≡ Item.Reported n). absurd (cc))
    (λ (d : Contains items (Item.Reported n)).
    let later = some_longest p items n d h in (later.0, longest_skips p items ∙ later.1, later.2))
    (Contains-cases Item.Skipped items (Item.Reported n) c)
some_longest p (Item.Reported k ∷ items) n c h =
    by_test (nat_lt p k.offset)
    (λ b. let on = longest_past p k items (ltb-true p k.offset b) in
    let two = a_first k (longest p items) in
    let facts = two_first k (longest p items) two.0 two.1 in (
      two.0,
      on ∙ two.1,
      ⊎_elim
          (λ (same : Item.Reported k ≡ Item.Reported n). grind (arith, common_steps, reported_same))
          (λ (d : Contains items (Item.Reported n)).
          let later = some_longest p items n d h in
          not_after two.0 later.0 n (facts.1 later.0 later.1) later.2)
          (Contains-cases (Item.Reported k) items (Item.Reported n) c),
    ))
    (λ b. let low = ltb-false p k.offset b in
    let on = longest_empty p k items low in
    ⊎_elim
    (λ (same : Item.Reported k ≡ Item.Reported n). grind (arith, common_steps, reported_same))
    (λ (d : Contains items (Item.Reported n)).
    let later = some_longest p items n d h in (later.0, on ∙ later.1, later.2))
    (Contains-cases (Item.Reported k) items (Item.Reported n) c))
  where
    a_first : (x : HalfMatch) (o : Option HalfMatch) → (y : HalfMatch) × (first_of_two x o ≡ Some y)
    a_first x None = (x, refl)
    a_first x (Some y) = if_first (comes_before y x)
      where
        if_first : (v : Bool) → (z : HalfMatch) × ((if v then Some y else Some x) ≡ Some z)
        if_first true = (y, refl)
        if_first false = (x, refl)

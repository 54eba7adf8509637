-- What rows give at a place of a reading: the first success of the paths from a row, where a match has a worth.
use Rattle.rx_spec.proofs.Prelude.{rules, ◌≡◌, ℕ, zero, suc, ◌+◌, ◌-◌, ◌≤◌, if◌then◌else◌, Option, Some, None, List}
use Rattle.rx_spec.proofs.Prelude.{length, refl, ap, ap₂, ◌∙◌, arith, common_steps, slice_get_past, option_or, contains}
use Rattle.rx_spec.proofs.Prelude.{Reading, after, holds_at, Row, row_at, AllNext, Short, IsShallow}
use Rattle.rx_lemmas.proofs.Patterns.{depth_of}

-- Rows whose paths that read nothing are short, what they read, and what a match is worth, by its pattern and
-- the place where it ends.
pub record Valued (V : Type 0) : Type 0 where
  pub rows : List Row
  pub shallow : IsShallow rows
  pub reading : Reading
  pub worth : ℕ → ℕ → Option V

-- what is given after a byte of a set
abbrev pub read_by : {V : Type 0} → ℕ → Option ℕ → Option V → Option V
read_by set None later = None
read_by set (Some byte) later = if contains set byte then later else None

-- What a row gives at a place, by what rows give one place on and what other rows give here.
abbrev pub row_gives : {V : Type 0} → Valued V → ℕ → (ℕ → Option V) → (ℕ → Option V) → Row → Option V
row_gives x i later here (Row.Bytes set next) = read_by set (after x.reading.units i) (later next)
row_gives x i later here (Row.Split first second) = option_or (here first) (here second)
row_gives x i later here (Row.Look look next) = if holds_at x.reading look i then here next else None
row_gives x i later here (Row.Match pattern) = x.worth pattern i
row_gives x i later here Row.Fail = None

-- Along paths that read nothing by their length, and then by what is left to be read.
unfoldable settle : {V : Type 0} → Valued V → ℕ → (ℕ → Option V) → ℕ → ℕ → Option V
settle x i later zero q = None
settle x i later (suc n) q = row_gives x i later (λ p. settle x i later n p) (row_at x.rows q)

unfoldable given_left : {V : Type 0} → Valued V → ℕ → ℕ → ℕ → Option V
given_left x zero i q = settle x i (λ next. None) (depth_of x.rows) q
given_left x (suc m) i q = settle x i (λ next. given_left x m (i + 1) next) (depth_of x.rows) q

-- what a row gives at a place
pub given : {V : Type 0} → Valued V → ℕ → ℕ → Option V
given x q i = given_left x (length x.reading.units - i) i q

module _ {V : Type 0} (x : Valued V) where
  -- other rows that give the same
  row_gives-same : (P : ℕ → Type 0) (i : ℕ) (later here others : ℕ → Option V) → ((p : ℕ) → P p → here p ≡ others p)
      → (row : Row) → AllNext P row → row_gives x i later here row ≡ row_gives x i later others row
  row_gives-same P i later here others e (Row.Split first second) h = ap₂ option_or (e first h.0) (e second h.1)
  row_gives-same P i later here others e (Row.Look look next) h = grind (arith, common_steps)
  row_gives-same P i later here others e _ h = refl

  -- where nothing is read, what is given later doesn't matter
  unread : (i : ℕ) (later others here : ℕ → Option V) → after x.reading.units i ≡ None → (row : Row)
      → row_gives x i later here row ≡ row_gives x i others here row
  unread i later others here e (Row.Bytes set next) = grind (arith, common_steps)
  unread i later others here e _ = refl

  settle-more : (i : ℕ) (later : ℕ → Option V) (n m q : ℕ) → n ≤ m → Short x.rows n q
      → settle x i later n q ≡ settle x i later m q
  unfolding Short settle
  settle-more i later zero m q le h = absurd h
  settle-more i later (suc n) zero q le h = absurd (omega arith)
  settle-more i later (suc n) (suc m) q le h = grind (arith, common_steps, row_gives-same, settle-more i later n m)

  settle_gives : (i : ℕ) (later : ℕ → Option V) (n q : ℕ) → Short x.rows n q
      → settle x i later n q ≡ row_gives x i later (λ p. settle x i later n p) (row_at x.rows q)
  unfolding settle
  settle_gives i later n q h = settle-more i later n (suc n) q (omega arith) h

  left_gives : (m i q : ℕ) → length x.reading.units - i ≡ m
      → given_left x m i q
      ≡ row_gives x i (λ next. given_left x (length x.reading.units - (i + 1)) (i + 1) next)
      (λ p. given_left x m i p) (row_at x.rows q)
  unfolding given_left
  left_gives zero i q e = grind (arith, common_steps, depth_of, settle_gives, unread, slice_get_past)
  left_gives (suc m) i q e = grind (arith, common_steps, depth_of, settle_gives)

  -- Each row gives what its form says.
  abbrev pub gives_at : ℕ → Row → Option V
  gives_at i row = row_gives x i (λ next. given x next (i + 1)) (λ p. given x p i) row

  pub given_solves : (q i : ℕ) → given x q i ≡ gives_at i (row_at x.rows q)
  unfolding given
  given_solves q i = left_gives (length x.reading.units - i) i q refl

  pub given_as : (q i : ℕ) (row : Row) → row_at x.rows q ≡ row → given x q i ≡ gives_at i row
  given_as q i row e = given_solves q i ∙ ap (gives_at i) e

  -- Where no match is worth anything from a place on, nothing is given there.
  none_read : (set : ℕ) (byte : Option ℕ) (later : Option V) → later ≡ None → read_by set byte later ≡ None
  none_read set None later e = refl
  none_read set (Some byte) later e = grind (arith, common_steps)

  row_gives-none : (i : ℕ) (later here : ℕ → Option V) → ((p : ℕ) → later p ≡ None) → ((p : ℕ) → here p ≡ None)
      → ((k : ℕ) → x.worth k i ≡ None) → (row : Row) → row_gives x i later here row ≡ None
  row_gives-none i later here e f g (Row.Bytes set next) = none_read set (after x.reading.units i) (later next) (e next)
  row_gives-none i later here e f g (Row.Split first second) = ap₂ option_or (f first) (f second)
  row_gives-none i later here e f g (Row.Look look next) = search rules
  row_gives-none i later here e f g (Row.Match pattern) = g pattern
  row_gives-none i later here e f g Row.Fail = refl

  settle-none : (i : ℕ) (later : ℕ → Option V) → ((p : ℕ) → later p ≡ None) → ((k : ℕ) → x.worth k i ≡ None)
      → (n q : ℕ) → settle x i later n q ≡ None
  unfolding settle
  settle-none i later e g zero q = refl
  settle-none i later e g (suc n) q =
      row_gives-none i later (λ p. settle x i later n p) e (settle-none i later e g n) g (row_at x.rows q)

  left_none : (m i q : ℕ) → ((k j : ℕ) → i ≤ j → x.worth k j ≡ None) → given_left x m i q ≡ None
  unfolding given_left
  left_none zero i q g = settle-none i (λ next. None) (λ p. refl) (λ k. g k i (omega arith)) (depth_of x.rows) q
  left_none (suc m) i q g = grind (arith, common_steps, settle-none, depth_of, left_none m (i + 1))

  pub given_none : (q i : ℕ) → ((k j : ℕ) → i ≤ j → x.worth k j ≡ None) → given x q i ≡ None
  unfolding given
  given_none q i g = left_none (length x.reading.units - i) i q g

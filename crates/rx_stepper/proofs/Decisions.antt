-- What decides the assertions of a state: the facts that are kept decide as much as all, states without assertions are
-- decided already, and closures end at rows that stand.
use Rattle.std.proofs.lemmas.Bool.{cases_Bool}
use Rattle.rx_spec.proofs.Prelude.{arith, ◌≡◌, ℕ, zero, suc, ◌+◌, ◌*◌, ◌||◌, Bool, true, false, List, [], ◌∷◌, ◌++◌}
use Rattle.rx_spec.proofs.Prelude.{length, refl, ap, ap₂, ◌∙◌, subst, common_steps, Contains, flat_map, list_any, Facts}
use Rattle.rx_spec.proofs.Prelude.{both, unit_facts, facts_kept, facts_read, holds_read, Nfa, Row, IsShallow, State}
use Rattle.rx_spec.proofs.Prelude.{Passing, Standing, Tested, row_at, reach_by, reach, closure, firsts, decided_rows}
use Rattle.rx_spec.proofs.Prelude.{holds_before, is_look_row}
use Rattle.rx_stepper.proofs.Prelude.{Apart-fresh, Contains-here, Contains-nil, Contains-there, asked_of, closed_rows}
use Rattle.rx_stepper.proofs.Prelude.{closure_unfolds, every-append, fresh_itself, fresh_within, stands}
use Rattle.std.specs.List.{AllByRecursion as Every}
use Rattle.rx_spec.specs.declared.Direction.{Direction}
use Rattle.rx_spec.specs.declared.Look.{Look}
use Rattle.rx_lemmas.proofs.Facts.{Cover, kept_cover, kept_after, kept_before}

-- ---- tests that agree on the assertions that rows have

abbrev pub Agree : List Row → (Look → Bool) → (Look → Bool) → Type 0
Agree rows f g = (q : ℕ) (look : Look) (next : ℕ) → row_at rows q ≡ Row.Look look next → f look ≡ g look

module _ (rows : List Row) (f g : Look → Bool) (agree : Agree rows f g) where
  reach_one : (a b : ℕ → List ℕ) (q : ℕ) (row : Row) → row_at rows q ≡ row → ((p : ℕ) → a p ≡ b p)
      → reach_by (Tested f) a q row ≡ reach_by (Tested g) b q row
  reach_one a b q row e h = grind (arith, common_steps)

  reach_same : (n q : ℕ) → reach rows (Tested f) n q ≡ reach rows (Tested g) n q
  unfolding reach
  reach_same zero q = refl
  reach_same (suc n) q =
      reach_one (λ p. reach rows (Tested f) n p) (λ p. reach rows (Tested g) n p) q (row_at rows q) refl
      (λ p. reach_same n p)

  pub closed_alike : (from : List ℕ) → closed_rows rows (Tested f) from ≡ closed_rows rows (Tested g) from
  closed_alike from = grind (arith, common_steps, reach_same)

row_there : (rows : List Row) (q : ℕ) {look : Look} {next : ℕ} → row_at rows q ≡ Row.Look look next
    → Contains rows (Row.Look look next)
row_there [] q e = absurd (cc)
row_there (row ∷ rows) zero e = subst (Contains (row ∷ rows)) e (Contains-here row rows)
row_there (row ∷ rows) (suc q) e = Contains-there row rows _ (row_there rows q e)

kept_next : (direction : Direction) (look : Look) (k x y : Facts) → Cover k (facts_read look)
    → holds_read direction look x (both k y) ≡ holds_read direction look x y
kept_next direction look k x y c = grind (arith, common_steps, kept_after, kept_before)

-- the facts of a unit that are asked for decide what all its facts do
pub decided_asked : (nfa : Nfa) (s : State) (unit : ℕ) {direction : Direction} {last next : Facts}
    → direction ≡ nfa.direction → last ≡ s.context → next ≡ asked_of nfa unit
    → closed_rows nfa.rows (Tested (λ look. holds_read direction look last next)) s.rows ≡ decided_rows nfa unit s
decided_asked nfa s unit {direction} {last} {next} d l n =
    closed_alike nfa.rows (λ look. holds_read direction look last next) (holds_before nfa unit s) same s.rows
  where
    all : Facts
    all = unit_facts nfa.line_terminator unit

    same : Agree nfa.rows (λ look. holds_read direction look last next) (holds_before nfa unit s)
    same q look behind e =
        let cover = kept_cover nfa.rows look behind (row_there nfa.rows q e) in
        ap (λ x. holds_read x look last next) d
        ∙ ap₂ (λ x y. holds_read nfa.direction look x y) l n
        ∙ kept_next nfa.direction look (facts_kept nfa.rows) s.context all cover

-- ---- closures end at rows that stand

module _ (rows : List Row) where
  abbrev Stands : ℕ → Type 0
  Stands q = stands (row_at rows q) ≡ true

  reach_stands : (behind : ℕ → List ℕ) (q : ℕ) (row : Row) → row_at rows q ≡ row
      → ((p : ℕ) → Every Stands (behind p)) → Every Stands (reach_by Standing behind q row)
  reach_stands behind q row e h = grind (arith, common_steps, every-append)

  all_reached : (n q : ℕ) → Every Stands (reach rows Standing n q)
  unfolding reach
  all_reached zero q = tt
  all_reached (suc n) q = reach_stands (λ p. reach rows Standing n p) q (row_at rows q) refl (λ p. all_reached n p)

  flat_stands : (from : List ℕ) → Every Stands (flat_map (closure rows Standing) from)
  flat_stands [] = tt
  flat_stands (q ∷ qs) =
      every-append Stands (closure rows Standing q) (flat_map (closure rows Standing) qs)
      (all_reached (length rows * length rows + 1) q) (flat_stands qs)

  pub closed_stands : (from : List ℕ) → Every Stands (closed_rows rows Standing from)
  closed_stands from =
      every_from _ (λ x h. every_at _ (flat_stands from) x (fresh_within [] (flat_map
      (closure rows Standing) from) x h))
    where
      every_at : (xs : List ℕ) → Every Stands xs → (x : ℕ) → Contains xs x → Stands x
      every_at xs h x c = grind (arith, common_steps, Contains-nil)

      every_from : (xs : List ℕ) → ((x : ℕ) → Contains xs x → Stands x) → Every Stands xs
      every_from [] h = tt
      every_from (y ∷ ys) h = (h y (Contains-here y ys), every_from ys (λ x c. h x (Contains-there y ys x c)))

-- each row of a closure stands there once
pub firsts_twice : (xs : List ℕ) → firsts (firsts xs) ≡ firsts xs
firsts_twice xs = fresh_itself [] (firsts xs) (Apart-fresh [] xs) (λ x c old. Contains-nil x old)

-- ---- states without assertions

module _ (rows : List Row) (shallow : IsShallow rows) (pass : Passing) where
  closed_one : (q : ℕ) (row : Row) → row_at rows q ≡ row → stands row ≡ true → is_look_row row ≡ false
      → closure rows pass q ≡ q ∷ []
  closed_one q row e s no_look = grind (arith, common_steps, closure_unfolds)

  or_left_false : (a b : Bool) → (a || b) ≡ false → a ≡ false
  or_left_false a b h = grind (arith, common_steps, cases_Bool)

  or_right_false : (a b : Bool) → (a || b) ≡ false → b ≡ false
  or_right_false a b h = grind (arith, common_steps, cases_Bool)

  closed_each : (qs : List ℕ) → Every (λ q. stands (row_at rows q) ≡ true) qs
      → list_any (λ q. is_look_row (row_at rows q)) qs ≡ false → flat_map (closure rows pass) qs ≡ qs
  closed_each [] s a = refl
  closed_each (q ∷ qs) s a =
      let others = list_any (λ p. is_look_row (row_at rows p)) qs in
      ap₂ (λ x y. x ++ y)
      (closed_one q (row_at rows q) refl s.0 (or_left_false (is_look_row (row_at rows q)) others a))
      (closed_each qs s.1 (or_right_false (is_look_row (row_at rows q)) others a))

  -- they are closed already
  pub closed_plain : (qs : List ℕ) → Every (λ q. stands (row_at rows q) ≡ true) qs → firsts qs ≡ qs
      → list_any (λ q. is_look_row (row_at rows q)) qs ≡ false → closed_rows rows pass qs ≡ qs
  closed_plain qs s once a = ap firsts (closed_each qs s a) ∙ once

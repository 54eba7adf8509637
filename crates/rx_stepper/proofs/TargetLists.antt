-- Lists of targets that are added to at the places of some columns.
use Rattle.std.proofs.lemmas.Bool.{cases_Bool}
use Rattle.rx_spec.proofs.Prelude.{common_steps, ◌≡◌, ℕ, ◌+◌, ◌<◌, ◌==◌, Bool, true, false, List, [], ◌∷◌, ◌++◌, length}
use Rattle.rx_spec.proofs.Prelude.{map, get_or, set, take, ap, ap₂, sym, ◌∙◌, arith, append_assoc, append-nil, filter}
use Rattle.rx_spec.proofs.Prelude.{cond, eqb-true, map-set}
use Rattle.rx_stepper.proofs.Prelude.{by_test, led_by, list_at, only_if}

-- ---- one column

module _ {X : Type 0} (f : X → List ℕ) (vs : List X) (v : ℕ) (x y : X) (next : ℕ) (lt : v < length vs)
    (e : f y ≡ f (get_or vs v x) ++ next ∷ []) where
  -- one list has one more
  pub pushed_one : (column : ℕ) → list_at (map f (set vs v y)) column
      ≡ list_at (map f vs) column ++ only_if (column == v) (next ∷ [])
  pushed_one column = grind (arith, common_steps, by_test, eqb-true, map-set)

-- ---- a turn of the loop over columns

module _ (next : ℕ) (p : ℕ → Bool) (columns : List ℕ) (i d : ℕ) (lt : i < length columns) where
  led_next : (column : ℕ) (b : Bool) → p (get_or columns i d) ≡ b
      → led_by next (filter p (take (i + 1) columns)) column
      ≡ led_by next (filter p (take i columns)) column ++ led_by next (only_if b (get_or columns i d ∷ [])) column
  led_next column b t = grind (arith, common_steps)

  module _ {X : Type 0} (f : X → List ℕ) (first vs : List X)
      (so_far : (column : ℕ) → list_at (map f vs) column
      ≡ list_at (map f first) column ++ led_by next (filter p (take i columns)) column) where
    -- the column isn't of the group
    pub column_left : p (get_or columns i d) ≡ false → (column : ℕ) → list_at (map f vs) column
        ≡ list_at (map f first) column ++ led_by next (filter p (take (i + 1) columns)) column
    column_left t column =
        so_far column
        ∙ ap (λ l. list_at (map f first) column ++ l)
        (sym (append-nil (led_by next (filter p (take i columns)) column)) ∙ sym (led_next column false t))

    -- its list has one more
    pub column_taken : (v : ℕ) (x y : X) → v ≡ get_or columns i d → p v ≡ true → v < length vs
        → f y ≡ f (get_or vs v x) ++ next ∷ [] → (column : ℕ)
        → list_at (map f (set vs v y)) column
        ≡ list_at (map f first) column ++ led_by next (filter p (take (i + 1) columns)) column
    column_taken v x y v_is t within e column =
        let before = led_by next (filter p (take i columns)) column in
        let one = only_if (column == v) (next ∷ []) in
        pushed_one f vs v x y next within e column ∙ ap (λ l. l ++ one) (so_far column)
        ∙ append_assoc (list_at (map f first) column) before one
        ∙ ap (λ l. list_at (map f first) column ++ l)
        (ap (λ l. before ++ l) (sym (append-nil one) ∙ ap (λ w. led_by next (w ∷ []) column) v_is)
        ∙ sym (led_next column true (ap p (sym v_is) ∙ t)))

-- ---- all columns of a row

pub only_nothing : (b : Bool) → only_if b [] ≡ []
only_nothing b = grind (arith, common_steps, cases_Bool)

only_append : (b : Bool) (xs ys : List ℕ) → only_if b xs ++ only_if b ys ≡ only_if b (xs ++ ys)
only_append b xs ys = grind (arith, common_steps, cases_Bool)

pub led_filtered : (next : ℕ) (p : ℕ → Bool) (columns : List ℕ) (column : ℕ)
    → led_by next (filter p columns) column ≡ only_if (p column) (led_by next columns column)
led_filtered next p [] column = sym (only_nothing (p column))
led_filtered next p (c ∷ cs) column =
    by_test (p c)
    (λ t. ap (λ b. led_by next (cond b (c ∷ filter p cs) (filter p cs)) column) t
    ∙ ap₂ (λ a b. a ++ b) (here t) (led_filtered next p cs column)
    ∙ only_append (p column) (only_if (column == c) (next ∷ [])) (led_by next cs column))
    (λ t. ap (λ b. led_by next (cond b (c ∷ filter p cs) (filter p cs)) column) t
    ∙ led_filtered next p cs column ∙ passed t)
  where
    here : p c ≡ true → only_if (column == c) (next ∷ []) ≡ only_if (p column) (only_if (column == c) (next ∷ []))
    here t = grind (arith, common_steps)

    passed : p c ≡ false → only_if (p column) (led_by next cs column)
        ≡ only_if (p column) (only_if (column == c) (next ∷ []) ++ led_by next cs column)
    passed t = grind (arith, common_steps)

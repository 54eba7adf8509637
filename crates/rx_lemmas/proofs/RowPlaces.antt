-- Rows that stand in a list of rows from a number on.
use Rattle.rx_spec.proofs.Prelude.{common_steps, [], ◌≡◌, ℕ, zero, suc, ◌+◌, ◌<◌, ◌≤◌, List, ◌∷◌, ◌++◌, length, refl}
use Rattle.rx_spec.proofs.Prelude.{ap, subst, arith, drop, ⊎_elim, cases_lt, Row, row_at}

-- The second rows stand in the first, from the number on.
abbrev pub Stands : List Row → ℕ → List Row → Type 0
Stands rows base [] = Unit {0}
Stands rows base (row ∷ more) = (row_at rows base ≡ row) × Stands rows (base + 1) more

moved_base : (P : ℕ → Type 0) (a b : ℕ) → a ≡ b → P a → P b
moved_base P a b e h = subst P e h

pub stands-left : (rows : List Row) (base : ℕ) (xs ys : List Row) → Stands rows base (xs ++ ys) → Stands rows base xs
stands-left rows base [] ys h = tt
stands-left rows base (x ∷ xs) ys h = (h.0, stands-left rows (base + 1) xs ys h.1)

pub stands-right : (rows : List Row) (base : ℕ) (xs ys : List Row) → Stands rows base (xs ++ ys)
    → Stands rows (base + length xs) ys
stands-right rows base [] ys h = moved_base (λ b. Stands rows b ys) base (base + 0) (omega arith) h
stands-right rows base (x ∷ xs) ys h =
    moved_base (λ b. Stands rows b ys) (base + 1 + length xs) (base + suc (length xs)) (omega arith)
    (stands-right rows (base + 1) xs ys h.1)

-- Something holds of as many numbers as there are rows, from a base on.
abbrev pub EachFrom : (ℕ → Type 0) → ℕ → List Row → Type 0
EachFrom P base [] = Unit {0}
EachFrom P base (row ∷ more) = P base × EachFrom P (base + 1) more

pub each-append : (P : ℕ → Type 0) (base : ℕ) (xs ys : List Row) → EachFrom P base xs
    → EachFrom P (base + length xs) ys → EachFrom P base (xs ++ ys)
each-append P base [] ys h k = moved_base (λ b. EachFrom P b ys) (base + 0) base (omega arith) k
each-append P base (x ∷ xs) ys h k = (
  h.0,
  each-append P (base + 1) xs ys h.1
      (moved_base (λ b. EachFrom P b ys) (base + suc (length xs)) (base + 1 + length xs) (omega arith) k),
)

pub each-weaker : (P Q : ℕ → Type 0) (base : ℕ) (xs : List Row) → ((q : ℕ) → P q → Q q) → EachFrom P base xs
    → EachFrom Q base xs
each-weaker P Q base [] f h = tt
each-weaker P Q base (x ∷ xs) f h = (f base h.0, each-weaker P Q (base + 1) xs f h.1)

pub each-at : (P : ℕ → Type 0) (base : ℕ) (xs : List Row) → EachFrom P base xs → (q : ℕ) → base ≤ q
    → q < base + length xs → P q
each-at P base [] h q low high = absurd (omega arith)
each-at P base (x ∷ xs) h q low high =
    ⊎_elim (λ (above : base < q). each-at P (base + 1) xs h.1 q (omega arith) (omega arith))
    (λ (l : q ≤ base). let same : base ≡ q = omega arith in subst P same h.0) (cases_lt base q)

-- The whole list stands in itself.
abbrev IsNil : List Row → Type 0
IsNil [] = Unit {0}
IsNil (x ∷ xs) = ⊥

nil_is_not_cons : (y : Row) (ys : List Row) → [] ≡ y ∷ ys → ⊥
nil_is_not_cons y ys e = subst IsNil e tt

abbrev head_or : Row → List Row → Row
head_or d [] = d
head_or d (x ∷ xs) = x

abbrev tail_of : List Row → List Row
tail_of [] = []
tail_of (x ∷ xs) = xs

one_dropped : (x : Row) (xs : List Row) (y : Row) (ys : List Row) → x ∷ xs ≡ y ∷ ys → drop 1 (x ∷ xs) ≡ ys
one_dropped x xs y ys e = ap tail_of e

suc_dropped : (x : Row) (xs : List Row) (i : ℕ) (ys : List Row) → drop (i + 1) xs ≡ ys → drop (suc i + 1) (x ∷ xs) ≡ ys
suc_dropped x xs i ys e = grind (arith, common_steps)

got_next : (xs : List Row) (i : ℕ) (y : Row) (ys : List Row) → drop i xs ≡ y ∷ ys
    → (row_at xs i ≡ y) × (drop (i + 1) xs ≡ ys)
got_next [] zero y ys e = absurd (nil_is_not_cons y ys e)
got_next [] (suc i) y ys e = absurd (nil_is_not_cons y ys e)
got_next (x ∷ xs) zero y ys e = (ap (head_or x) e, one_dropped x xs y ys e)
got_next (x ∷ xs) (suc i) y ys e =
    let h = got_next xs i y ys e in
    (h.0, suc_dropped x xs i ys h.1)

stands_rest : (rows : List Row) (base : ℕ) (more : List Row) → drop base rows ≡ more → Stands rows base more
stands_rest rows base [] e = tt
stands_rest rows base (row ∷ more) e =
    let h = got_next rows base row more e in
    (h.0, stands_rest rows (base + 1) more h.1)

pub stands_all : (rows : List Row) → Stands rows 0 rows
stands_all rows = stands_rest rows 0 rows refl

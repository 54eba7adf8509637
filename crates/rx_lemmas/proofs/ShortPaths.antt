-- Paths that read nothing.
use Rattle.rx_spec.proofs.Prelude.{◌≡◌, ℕ, zero, suc, ◌≤◌, if◌then◌else◌, List, [], ◌++◌, refl, ap, ap₂, arith, Row}
use Rattle.rx_spec.proofs.Prelude.{AllNext, Short, row_at, Passing, Standing, Tested, reach_by}

pub AllNext-more : (P Q : ℕ → Type 0) → ((p : ℕ) → P p → Q p) → (row : Row) → AllNext P row → AllNext Q row
AllNext-more P Q f (Row.Split first second) h = (f first h.0, f second h.1)
AllNext-more P Q f (Row.Look look next) h = f next h
AllNext-more P Q f _ h = tt

-- what is shorter than a bound is shorter than a greater one
pub short-more : (rows : List Row) (n m q : ℕ) → n ≤ m → Short rows n q → Short rows m q
unfolding Short
short-more rows zero m q le h = absurd h
short-more rows (suc n) zero q le h = absurd (omega arith)
short-more rows (suc n) (suc m) q le h =
    AllNext-more (λ p. Short rows n p) (λ p. Short rows m p) (λ p k. short-more rows n m p (omega arith) k)
    (row_at rows q) h

-- what a row reaches by two functions that give the same of the rows next to it
pub reach_by-same : (pass : Passing) (f g : ℕ → List ℕ) (q : ℕ) (row : Row) → AllNext (λ p. f p ≡ g p) row
    → reach_by pass f q row ≡ reach_by pass g q row
reach_by-same pass f g q (Row.Split first second) h = ap₂ (λ (a b : List ℕ). a ++ b) h.0 h.1
reach_by-same Standing f g q (Row.Look look next) h = refl
reach_by-same (Tested holds) f g q (Row.Look look next) h = ap (λ (l : List ℕ). if holds look then l else []) h
reach_by-same pass f g q _ h = refl

-- Lists of thin rows that grow at the end.
use Rattle.rx_spec.proofs.Prelude.{common_steps, ◌≡◌, ℕ, zero, suc, ◌+◌, ◌<◌, ◌≤◌, List, [], ◌∷◌, ◌++◌, length, get_or}
use Rattle.rx_spec.proofs.Prelude.{refl, ap, sym, ◌∙◌, subst, arith, ⊎_elim, true, false, nat_lt, cases_lt}
use Rattle.rx_spec.proofs.Prelude.{slice_get_past, map, list_any, Row, row_at, is_look_row}
use Rattle.rx_stepper.proofs.Prelude.{AreThin, IsThin, ThinRow, row_of, row_of_thin, thin_at}
use Rattle.rx_expr.specs.declared.thompson.nfa.Row as code

pub thin_there : (thin : List ThinRow) (q : ℕ) {row : ThinRow} → q < length thin → row ≡ get_or thin q row
    → row ≡ thin_at thin q
thin_there [] q lt e = absurd (omega arith)
thin_there (x ∷ xs) zero lt e = e
thin_there (x ∷ xs) (suc q) lt e = thin_there xs q (omega arith) e

-- a thin row that was looked up
pub thin_found : (thin : List ThinRow) {looked : List ThinRow} {i q : ℕ} {row : ThinRow} → looked ≡ thin → i ≡ q
    → true ≡ nat_lt i (length looked) → row ≡ get_or looked i row → row ≡ thin_at thin q
thin_found thin {looked} {i} {q} {row} same e lt is = grind (arith, common_steps, thin_there)

thin_before : (xs : List ThinRow) (y : ThinRow) (q : ℕ) → q < length xs → thin_at xs q ≡ thin_at (xs ++ y ∷ []) q
thin_before [] y q lt = absurd (omega arith)
thin_before (x ∷ xs) y zero lt = refl
thin_before (x ∷ xs) y (suc q) lt = thin_before xs y q (omega arith)

thin_end : (xs : List ThinRow) (y : ThinRow) → y ≡ thin_at (xs ++ y ∷ []) (length xs)
thin_end [] y = refl
thin_end (x ∷ xs) y = thin_end xs y

-- a row of the code as the row of its number
pub row_there : (xs : List code.Row) {rows : List Row} (i : ℕ) (row : code.Row) → i < length xs → row ≡ get_or xs i row
    → map row_of xs ≡ rows → row_at rows i ≡ row_of row
row_there xs {rows} i row lt is e = ap (λ l. row_at l i) (sym e) ∙ go xs i lt is
  where
    go : (ys : List code.Row) (k : ℕ) → k < length ys → row ≡ get_or ys k row → row_at (map row_of ys) k ≡ row_of row
    go [] k lt is = absurd (omega arith)
    go (y ∷ ys) zero lt is = ap row_of (sym is)
    go (y ∷ ys) (suc k) lt is = go ys k (omega arith) is

-- one more row that is thin
pub thin_push : (thin : List ThinRow) (rows : List Row) {more : List ThinRow} {n : ℕ} (new : ThinRow) → length thin ≡ n
    → more ≡ thin ++ new ∷ [] → IsThin (row_of_thin new) (row_at rows n)
    → ((q : ℕ) → q < n → IsThin (row_of_thin (thin_at thin q)) (row_at rows q))
    → (q : ℕ) → q < n + 1 → IsThin (row_of_thin (thin_at more q)) (row_at rows q)
thin_push thin rows {more} {n} new len e is each q h =
    subst
    (λ l. IsThin (row_of_thin (thin_at l q)) (row_at rows q))
    (sym e)
    (⊎_elim
    (λ (k : q < n).
    subst (λ r. IsThin (row_of_thin r) (row_at rows q)) (thin_before thin new q (omega arith)) (each q k))
    (λ (k : n ≤ q).
    let here : thin_at (thin ++ new ∷ []) n ≡ new =
    ap (thin_at (thin ++ new ∷ [])) (sym len) ∙ sym (thin_end thin new) in
    let same : n ≡ q = omega arith in
    subst
    (λ j. IsThin (row_of_thin (thin_at (thin ++ new ∷ []) j)) (row_at rows j))
    same
    (subst (λ r. IsThin (row_of_thin r) (row_at rows n)) (sym here) is))
    (cases_lt q n))

-- all rows are thin, and past the end there are none
pub thin_all : (thin : List ThinRow) (rows : List Row) → length thin ≡ length rows
    → ((q : ℕ) → q < length rows → IsThin (row_of_thin (thin_at thin q)) (row_at rows q)) → AreThin thin rows
thin_all thin rows len each q = grind (arith, common_steps, slice_get_past)

-- ---- assertions

-- where no row is an assertion, none of some rows is
pub no_looks : (rows : List Row) (qs : List ℕ) → ((q : ℕ) → is_look_row (row_at rows q) ≡ false)
    → false ≡ list_any (λ q. is_look_row (row_at rows q)) qs
no_looks rows [] none = refl
no_looks rows (q ∷ qs) none = rw (none q) (no_looks rows qs none)

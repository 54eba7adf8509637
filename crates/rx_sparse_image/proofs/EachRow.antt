-- Tests of each row of some, with its offset.
use Rattle.rx_spec.proofs.Prelude.{[], ◌≡◌, ℕ, zero, suc, ◌+◌, ◌<◌, Bool, true, false, List, ◌∷◌, length, take, get_or}
use Rattle.rx_spec.proofs.Prelude.{refl, ap, sym, ◌∙◌, arith, and_from, and_parts, and_right}
use Rattle.std.proofs.lemmas.Bool.{and_left}
use Rattle.rx_sparse.specs.Rows.{Row, no_row, row_len, rows_len}
use Rattle.rx_sparse_image.specs.Closing.{each_row}

-- a row begins behind those before it
further : (at : ℕ) (row : Row) (rows : List Row) (i : ℕ)
    → at + rows_len (take (suc i) (row ∷ rows)) ≡ at + row_len row + rows_len (take i rows)
unfolding rows_len
further at row rows i = omega arith

here : (at : ℕ) (row : Row) (rows : List Row) → at + rows_len (take 0 (row ∷ rows)) ≡ at
unfolding rows_len
here at row rows = omega arith

-- a test of all is one of each
pub each_at : (test : ℕ → Row → Bool) (at : ℕ) (rows : List Row) (i : ℕ) → each_row test at rows ≡ true
    → i < length rows → test (at + rows_len (take i rows)) (get_or rows i no_row) ≡ true
each_at test at [] i passed h = elim h [ ]
each_at test at (row ∷ rows) zero passed h =
    ap (λ n. test n row) (here at row rows)
    ∙ (and_parts (test at row) (each_row test (at + row_len row) rows) passed).0
each_at test at (row ∷ rows) (suc i) passed h =
    ap (λ n. test n (get_or rows i no_row)) (further at row rows i)
    ∙ each_at test (at + row_len row) rows i
    (and_parts (test at row) (each_row test (at + row_len row) rows) passed).1 (omega arith)

-- where each passes, all do
pub each_passes : (test : ℕ → Row → Bool) (at : ℕ) (rows : List Row)
    → ((i : ℕ) → i < length rows → test (at + rows_len (take i rows)) (get_or rows i no_row) ≡ true)
    → each_row test at rows ≡ true
each_passes test at [] passed = refl
each_passes test at (row ∷ rows) passed =
    and_from (test at row) (each_row test (at + row_len row) rows)
    (ap (λ n. test n row) (sym (here at row rows)) ∙ passed 0 (omega arith))
    (each_passes test (at + row_len row) rows
    (λ i h. ap (λ n. test n (get_or rows i no_row)) (sym (further at row rows i)) ∙ passed (suc i) (omega arith)))

-- where one fails, not all pass
pub one_fails : (test : ℕ → Row → Bool) (at : ℕ) (rows : List Row) (i : ℕ) → i < length rows
    → test (at + rows_len (take i rows)) (get_or rows i no_row) ≡ false → each_row test at rows ≡ false
one_fails test at [] i h fails = elim h [ ]
one_fails test at (row ∷ rows) zero h fails =
    and_left (test at row) (each_row test (at + row_len row) rows)
    (ap (λ n. test n row) (sym (here at row rows)) ∙ fails)
one_fails test at (row ∷ rows) (suc i) h fails =
    and_right (test at row) (each_row test (at + row_len row) rows)
    (one_fails test (at + row_len row) rows i (omega arith)
    (ap (λ n. test n (get_or rows i no_row)) (sym (further at row rows i)) ∙ fails))

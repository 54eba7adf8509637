-- An image takes no more bytes than there are.
use Rattle.rx_spec.proofs.Prelude.{◌≡◌, ℕ, ◌-◌, ◌≤◌, Bool, true, false, if◌then◌else◌, List, length, Result, Ok, Err}
use Rattle.rx_spec.proofs.Prelude.{ap, arith}
use Rattle.rx_wire.specs.Kinds.{Kind, ◌>>=◌}
use Rattle.rx_dense.specs.Layouts as dense
use Rattle.rx_dense_image.specs.Images as dense_images
use Rattle.rx_dense_image.specs.Closing as dense_closing
use Rattle.rx_sparse.specs.Layouts as sparse
use Rattle.rx_sparse_image.specs.Images as sparse_images
use Rattle.rx_sparse_image.specs.Closing as sparse_closing
use Rattle.rx_sparse_image.specs.Walks.{rows_at}
use Rattle.rx_sparse.specs.Rows.{Row}

same_len : {A : Type 0} (x y : A) (m n : ℕ) → ◌≡◌ {A = Result (A × ℕ) Kind} (Ok (x, m)) (Ok (y, n)) → m ≡ n
same_len {A} x y m n e =
    let same : ◌≡◌ {A = A × ℕ} (x, m) (y, n) = cc in ap (λ (p : A × ℕ). p.1) same

not_read : {A : Type 0} (kind : Kind) (y : A) → ◌≡◌ {A = Result A Kind} (Err kind) (Ok y) → ⊥
not_read kind y e = cc

-- what is told where a closing test passes
tested : {A : Type 0} (size rest : ℕ) (passes : Bool) (x y : A) (n : ℕ)
    → ◌≡◌ {A = Result (A × ℕ) Kind} (if passes then Ok (x, size - rest) else Err Kind.Generic) (Ok (y, n)) → n ≤ size
tested size rest true x y n e = omega (arith, same_len x y (size - rest) n e)
tested size rest false x y n e = absurd (not_read Kind.Generic (y, n) e)

pub dense_within : (bytes : List ℕ) {l : dense.Layout} {n : ℕ} → dense_images.reads bytes ≡ Ok (l, n)
    → n ≤ length bytes
unfolding dense_images.reads
dense_within bytes {l} {n} e = by_parts (dense_images.parts_at bytes) e
  where
    finish : dense.Layout × List ℕ → Result (dense.Layout × ℕ) Kind
    finish p = if dense_closing.is_closed p.0 then Ok (p.0, length bytes - length p.1) else Err Kind.Generic

    by_parts : (parts : Result (dense.Layout × List ℕ) Kind) → (parts >>= finish) ≡ Ok (l, n) → n ≤ length bytes
    by_parts (Ok p) e = tested (length bytes) (length p.1) (dense_closing.is_closed p.0) p.0 l n e
    by_parts (Err kind) e = absurd (not_read kind (l, n) e)

pub sparse_within : (bytes : List ℕ) {t : sparse.Stored} {n : ℕ} → sparse_images.reads bytes ≡ Ok (t, n)
    → n ≤ length bytes
unfolding sparse_images.reads
sparse_within bytes {t} {n} e = by_parts (sparse_images.parts_at bytes) e
  where
    finish : sparse_images.Parts × List ℕ → List Row → Result (sparse.Stored × ℕ) Kind
    finish p rows =
        if sparse_closing.is_closed p.0.bytes.state_len (sparse_images.layout_of p.0 rows)
        then Ok (sparse_images.stored_of p.0 rows, length bytes - length p.1) else Err Kind.Generic

    by_rows : (p : sparse_images.Parts × List ℕ) (rows : Result (List Row) Kind) → (rows >>= finish p) ≡ Ok (t, n)
        → n ≤ length bytes
    by_rows p (Ok rows) e =
        tested (length bytes) (length p.1)
        (sparse_closing.is_closed p.0.bytes.state_len (sparse_images.layout_of p.0 rows))
        (sparse_images.stored_of p.0 rows) t n e
    by_rows p (Err kind) e = absurd (not_read kind (t, n) e)

    by_parts : (parts : Result (sparse_images.Parts × List ℕ) Kind)
        → (parts >>= λ p. rows_at (sparse_images.bounds_of p.0) p.0.bytes.rows >>= finish p) ≡ Ok (t, n)
        → n ≤ length bytes
    by_parts (Ok p) e = by_rows p (rows_at (sparse_images.bounds_of p.0) p.0.bytes.rows) e
    by_parts (Err kind) e = absurd (not_read kind (t, n) e)

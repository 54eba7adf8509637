-- That a table is sound is a fact and nothing more; and offsets are ids.
use Rattle.std.proofs.Common.{◌≡◌, ℕ, zero, suc, ◌+◌, ◌<◌, List, [], ◌∷◌, length, take, get_or, refl, ap, arith}
use Rattle.std.proofs.Props.{props}
use Rattle.rx_spec.specs.Ids.{AreIds, id_of}
use Rattle.rx_spec.specs.Tables.{IsSound}
use Rattle.rx_sparse.specs.Rows.{Row, no_row, offsets, offsets_from, row_len, rows_len}
use Rattle.rx_sparse.specs.Layouts.{Layout, table_of}

abbrev pub IsSoundLayout : Layout → Type 0
IsSoundLayout l = IsSound (table_of l)

pub IsSoundLayout-fact : (l : Layout) → IsProp (IsSoundLayout l)
IsSoundLayout-fact l = hlevel props

-- ---- offsets

pub length-offsets : (at : ℕ) (rows : List Row) → length (offsets_from at rows) ≡ length rows
unfolding offsets_from
length-offsets at [] = refl
length-offsets at (row ∷ rows) = ap suc (length-offsets (at + row_len row) rows)

-- a row begins behind those before it
pub offset_at : (at : ℕ) (rows : List Row) (row : ℕ) → row < length rows
    → id_of (offsets_from at rows) row ≡ at + rows_len (take row rows)
unfolding offsets_from rows_len
offset_at at [] row h = elim h [ ]
offset_at at (r ∷ rows) zero h = omega arith
offset_at at (r ∷ rows) (suc row) h = omega (arith, offset_at (at + row_len r) rows row (omega arith))

pub rows_len-more : (rows : List Row) (row : ℕ) → row < length rows
    → rows_len (take (row + 1) rows) ≡ rows_len (take row rows) + row_len (get_or rows row no_row)
unfolding rows_len
rows_len-more [] row h = elim h [ ]
rows_len-more (r ∷ rows) zero h = omega arith
rows_len-more (r ∷ rows) (suc row) h =
    let e : suc row + 1 ≡ suc (row + 1) = omega arith in
    rw e (omega (arith, rows_len-more rows row (omega arith)))

pub offsets_are_ids : (rows : List Row) → AreIds (length rows) (offsets rows)
offsets_are_ids rows = record {
  count = length-offsets 0 rows;
  rising = λ k h.
      let n = length-offsets 0 rows in
      omega (
        arith,
        offset_at 0 rows k (omega arith),
        offset_at 0 rows (k + 1) (omega arith),
        rows_len-more rows k (omega arith),
      );
}

-- What is known of a sparse table that is ready to be written: rows and their ids, and which ids are special.
use Rattle.rx_spec.proofs.Prelude.{◌≡◌, ℕ, ◌<◌, ◌^◌, true, leb, [], length, slice_index, sym, ap, ◌∙◌, arith, id_of}
use Rattle.rx_spec.proofs.Prelude.{row_of}
use Rattle.rx_search.specs.Starts.{IsId}
use Rattle.rx_dense.proofs.Rows.{id_at_row}
use Rattle.rx_image_parts.specs.SpecialIds.{is_named, are_special}
use Rattle.rx_image_parts.proofs.IdTables.{IdTable, named_is}
use Rattle.rx_sparse.proofs.RowPlaces.{each_next}
use Rattle.rx_sparse_image.proofs.RowIds.{id_table}
use Rattle.rx_sparse.specs.Rows.{next_ids}
use Rattle.rx_sparse.specs.Layouts.{IsShaped, Layout, ids_of, row_at, row_count}
use Rattle.rx_sparse.specs.Facts.{IsSoundLayout}
use Rattle.rx_sparse_image.proofs.ClosedRows.{AreSpecialRows}

-- A sound sparse table. Its second row is quit, its special ids are those of rows and in order, and no bit of its quit
-- set is past the last byte.
pub record IsReady (l : Layout) : Type 0 where
  pub shaped : IsShaped l
  pub sound : IsSoundLayout l
  pub second : l.special.quit ≡ id_of (ids_of l) 1
  pub rows : AreSpecialRows l
  pub special : are_special l.special ≡ true
  pub quit : l.quit < 2 ^ 256

module _ (l : Layout) (ready : IsReady l) where
  abbrev pub table : IdTable
  table = id_table l ready.shaped ready.second

  pub second_row : 1 < row_count l
  second_row = let two = ready.shaped.rows.two in omega arith

  -- the rows up to the greatest special one are dead, quit, and those in a range
  pub special_is : (row : ℕ) → row < row_count l
      → leb (id_of (ids_of l) row) l.special.max ≡ is_named l.special (id_of (ids_of l) row)
  special_is row h = ready.sound.special row h ∙ sym (named_is table row h)

  -- ---- where a row leads

  -- each range and the end mark lead to a row
  pub next_is_id : (row : ℕ) → row < row_count l → (i : ℕ) → i < length (next_ids (row_at l row))
      → IsId (ids_of l) (slice_index (next_ids (row_at l row)) i)
  next_is_id row h =
      each_next (IsId (ids_of l)) (row_at l row) (ready.shaped.rows.rows row h).nexts (ready.shaped.rows.rows row h).eoi

  -- an id whose row is dead is 0
  pub zero_of : (id : ℕ) → IsId (ids_of l) id → row_of (ids_of l) id ≡ 0 → id ≡ 0
  zero_of id is e = sym (id_at_row (ids_of l) id is) ∙ ap (id_of (ids_of l)) e ∙ table.dead

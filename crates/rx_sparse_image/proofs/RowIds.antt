-- The rows of a sparse table and their ids.
use Rattle.rx_spec.proofs.Prelude.{◌≡◌, ℕ, ◌<◌, refl, sym, arith, id_of, row_of}
use Rattle.rx_lemmas.proofs.Ids.{row_of-id_of}
use Rattle.rx_search.specs.Starts.{IsId}
use Rattle.rx_dense.specs.Specials.{is_match_id, is_quit_id}
use Rattle.rx_dense.proofs.Rows.{id_at_row}
use Rattle.rx_image_parts.proofs.IdTables.{IdTable, labels}
use Rattle.rx_sparse.specs.Facts.{length-offsets, offsets_are_ids}
use Rattle.rx_sparse.specs.Layouts.{IsShaped, Layout, ids_of, next_id, row_at, row_count, table_of}
use Rattle.rx_sparse.proofs.RowPlaces.{first_id, next_row_is_id}

pub row_below : (l : Layout) (id : ℕ) → IsId (ids_of l) id → row_of (ids_of l) id < row_count l
row_below l id is = omega (arith, length-offsets 0 l.rows)

abbrev pub id_table : (l : Layout) → IsShaped l → l.special.quit ≡ id_of (ids_of l) 1 → IdTable
id_table l shaped quit = record {
  table = table_of l;
  special = l.special;
  id = id_of (ids_of l);
  row = row_of (ids_of l);
  next = λ row unit. next_id l.classes (row_at l row) unit;
  patterns = λ row. (row_at l row).patterns;
  two = shaped.rows.two;
  dead = first_id l.rows (let two = shaped.rows.two in omega arith);
  quit = sym quit;
  back = λ row h. row_of-id_of (offsets_are_ids l.rows) row h;
  there = λ row unit h u.
      id_at_row (ids_of l) (next_id l.classes (row_at l row) unit) (next_row_is_id l shaped row unit h);
  leads = λ row unit. refl;
  label = λ row.
      labels (is_match_id l.special (id_of (ids_of l) row)) (is_quit_id l.special (id_of (ids_of l) row))
      (row_at l row).patterns;
}

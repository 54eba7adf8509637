-- The ids of a table's rows.
use Rattle.rx_spec.proofs.Prelude.{common_steps, ◌≡◌, ℕ, ◌*◌, ◌/◌, ◌<◌, length, ap, sym, ◌∙◌, arith, row_of}
use Rattle.rx_spec.proofs.Prelude.{mod-mul-add, pow_pos}
use Rattle.rx_determinize.proofs.Prelude.{AreRows, IsRowId, Layout, ids_of, multiple_below, no_more, row_count, stride}
use Rattle.rx_search.specs.Starts.{IsId}
use Rattle.rx_lemmas.proofs.Ids.{row_of-id_of, id_of-dense, dense_are_ids}

-- the row of the id of a row
pub row_of-row : (l : Layout) (row : ℕ) → row < row_count l → row_of (ids_of l) (row * stride l) ≡ row
row_of-row l row within =
    ap (row_of (ids_of l)) (sym (id_of-dense (row_count l) l.stride2 row within))
    ∙ row_of-id_of (dense_are_ids (row_count l) l.stride2) row within

-- it is an id
pub row_is_id : (l : Layout) (row : ℕ) → row < row_count l → IsId (ids_of l) (row * stride l)
row_is_id l row within = grind (arith, common_steps, row_of-row, dense_are_ids)

-- the id of a row is that of a row
pub row_id : (l : Layout) (row : ℕ) → AreRows l → row < row_count l → IsRowId l (row * stride l)
row_id l row rows within = record {
  whole = rw (← no_more (row * stride l)) (mod-mul-add row (stride l) 0 (pow_pos l.stride2));
  below = multiple_below row (stride l) (length l.words) (pow_pos l.stride2) within;
}

-- the row of its id, by division
pub row_of_id : (l : Layout) (row : ℕ) → row * stride l / stride l ≡ row
row_of_id l row = grind (arith, common_steps, pow_pos)

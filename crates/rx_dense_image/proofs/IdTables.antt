-- A dense table as one whose rows have ids.
use Rattle.rx_spec.proofs.Prelude.{◌≡◌, ℕ, ◌+◌, ◌*◌, ◌/◌, ◌<◌, length, refl, arith, mul-div_cancel, le-div, pow_pos}
use Rattle.rx_dense.specs.Specials.{is_match_id, is_quit_id}
use Rattle.rx_dense.specs.Layouts.{AreRows, IsRowId, Layout, column, next_id, patterns_at, place_in_range, row_count}
use Rattle.rx_dense.specs.Layouts.{stride, table_of}
use Rattle.rx_dense.proofs.Rows.{IsRowId-row, column_within, quotient}
use Rattle.rx_image_parts.proofs.IdTables.{IdTable, labels}

module _ (l : Layout) (rows : AreRows l) where
  pub place_below : (row unit : ℕ) → row < row_count l → unit < 257 → row * stride l + column l unit < length l.words
  place_below row unit lt u =
      omega (arith, column_within l rows.classes unit u, rows.fits, (IsRowId-row l row lt).below)

  pub next_row : (row unit : ℕ) → row < row_count l → unit < 257 → IsRowId l (next_id l (row * stride l) unit)
  next_row row unit lt u = rows.next_ids _ (place_below row unit lt u)

  -- the id of a row is its number times the stride
  abbrev pub id_table : l.special.quit ≡ stride l → IdTable
  id_table quit = record {
    table = table_of l;
    special = l.special;
    id = λ row. row * stride l;
    row = λ id. id / stride l;
    next = λ row unit. next_id l (row * stride l) unit;
    patterns = λ row. patterns_at l (place_in_range l l.special.min_match (row * stride l));
    two = le-div 2 (length l.words) (stride l) (pow_pos l.stride2) rows.two;
    dead = omega arith;
    quit = omega arith;
    back = λ row h. mul-div_cancel row (pow_pos l.stride2);
    there = λ row unit h u. quotient (next_id l (row * stride l) unit) (stride l) (next_row row unit h u).whole;
    leads = λ row unit. refl;
    label = λ row.
        labels (is_match_id l.special (row * stride l)) (is_quit_id l.special (row * stride l))
        (patterns_at l (place_in_range l l.special.min_match (row * stride l)));
  }

-- The tests of all parts of an image together. With them and the tests of each part the table is sound.
use Rattle.std.specs.Prelude.{ℕ, ◌+◌, ◌==◌, ◌&&◌, ◌||◌, nat_le, Bool, true, not, if◌then◌else◌, Option, Some, None}
use Rattle.std.specs.Prelude.{List, [], ◌∷◌, filter}
use Rattle.std.specs.List.{list_all, list_any, range_with_len}
use Rattle.std.specs.Str.{bytes_eq}
use Rattle.rx_spec.specs.Ids.{id_of}
use Rattle.rx_dense.specs.declared.special.Special.{Special}
use Rattle.rx_dense.specs.Specials.{is_accel_id, is_match_id}
use Rattle.rx_sparse.specs.Layouts.{Layout, ids_of, next_id, row_count}
use Rattle.rx_sparse.specs.Rows.{Row, next_ids, row_len}

-- a row begins there
abbrev pub is_row_id : Layout → ℕ → Bool
is_row_id l id = list_any (λ offset. offset == id) (ids_of l)

-- ---- rows, each with its offset

-- a test of each row and its offset, where the first begins at a place
abbrev pub each_row : (ℕ → Row → Bool) → (at : ℕ) → List Row → Bool
each_row test at [] = true
each_row test at (row ∷ rows) = test at row && each_row test (at + row_len row) rows

-- rows 0 and 1, dead and quit, lead to dead alone
abbrev pub leads_on : Special → (at : ℕ) → Row → Bool
leads_on s at row = if (at == 0) || (at == s.quit) then list_all (λ id. id == 0) (next_ids row) else true

-- whether a byte doesn't lead a row to itself
abbrev pub leaves : (classes : List ℕ) → (at : ℕ) → Row → ℕ → Bool
leaves classes at row byte = not (next_id classes row byte == at)

-- The bytes that don't. The word stands closed, since it goes over all bytes.
unfoldable pub leaving : (classes : List ℕ) → (at : ℕ) → Row → List ℕ
leaving classes at row = filter (leaves classes at row) (range_with_len 0 256)

-- the needles of an accelerated row are these bytes, rising
abbrev pub has_needles : Layout → (at : ℕ) → Row → Bool
has_needles l at row = if is_accel_id l.special at then bytes_eq row.needles (leaving l.classes at row) else true

-- Each range and the end mark lead to a row.
abbrev pub row_stands : Layout → (at : ℕ) → Row → Bool
row_stands l at row =
    list_all (is_row_id l) (next_ids row) && leads_on l.special at row && has_needles l at row

-- there are two rows at least, and the second is quit
abbrev pub rows_stand : Layout → Bool
rows_stand l =
    nat_le 2 (row_count l) && (l.special.quit == id_of (ids_of l) 1) && each_row (row_stands l) 0 l.rows

-- ---- special rows

abbrev pub are_special_rows : Layout → Special → Bool
are_special_rows l s =
    is_row_id l s.max && is_row_id l s.min_match && is_row_id l s.max_match && is_row_id l s.min_accel
    && is_row_id l s.max_accel && is_row_id l s.min_start && is_row_id l s.max_start

-- ---- start rows

-- a search starts at a row that neither matches nor quits
abbrev pub is_start_row : Layout → ℕ → Bool
is_start_row l id = is_row_id l id && not (is_match_id l.special id) && not (id == l.special.quit)

abbrev pub is_universal : Layout → Option ℕ → Bool
is_universal l None = true
is_universal l (Some id) = is_row_id l id

abbrev pub starts_stand : Layout → Bool
starts_stand l =
    list_all (is_start_row l) l.starts && is_universal l l.universal_unanchored && is_universal l l.universal_anchored

-- ---- all together

-- so many rows were told
abbrev pub is_closed : (told : ℕ) → Layout → Bool
is_closed told l = (row_count l == told) && rows_stand l && are_special_rows l l.special && starts_stand l

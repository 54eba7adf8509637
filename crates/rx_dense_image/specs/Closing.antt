-- The tests of all parts of an image together. With them and the tests of each part the table is sound.
use Rattle.std.specs.Prelude.{ℕ, ◌+◌, ◌-◌, ◌*◌, ◌/◌, ◌==◌, ◌&&◌, nat_lt, nat_le, Bool, true, not, if◌then◌else◌}
use Rattle.std.specs.Prelude.{Option, Some, None, List, [], length, take, filter, slice_index, get_or}
use Rattle.std.specs.List.{list_all, range_with_len}
use Rattle.std.specs.Str.{bytes_eq}
use Rattle.rx_dense.specs.declared.special.Special.{Special}
use Rattle.rx_dense.specs.Specials.{is_match_id}
use Rattle.rx_dense.specs.Layouts.{Layout, is_row_id, next_id, patterns_at, row_count, stride}
use Rattle.rx_dense_image.specs.Rows.{are_entries, rows_of}
use Rattle.rx_image_parts.specs.SpecialIds.{is_named}

-- ---- rows

-- rows 0 and 1, dead and quit, lead to dead alone
abbrev pub lead_to_dead : Layout → Bool
lead_to_dead l = list_all (λ word. word == 0) (take (2 * stride l) l.words)

abbrev pub rows_stand : Layout → Bool
rows_stand l = nat_le 2 (row_count l) && are_entries (rows_of l) && lead_to_dead l

-- ---- special rows

abbrev pub are_special_rows : Layout → Special → Bool
are_special_rows l s =
    is_row_id l s.max && (s.quit == stride l) && is_row_id l s.min_match && is_row_id l s.max_match
    && is_row_id l s.min_accel && is_row_id l s.max_accel && is_row_id l s.min_start && is_row_id l s.max_start

-- each row up to the greatest special one is named
abbrev pub are_named : Layout → Bool
are_named l =
    list_all (λ row. is_named l.special (row * stride l)) (range_with_len 0 (l.special.max / stride l + 1))

abbrev pub special_stand : Layout → Bool
special_stand l = are_special_rows l l.special && are_named l

-- ---- start rows

-- a search starts at a row that neither matches nor quits
abbrev pub is_start_row : Layout → ℕ → Bool
is_start_row l id = is_row_id l id && not (is_match_id l.special id) && not (id == stride l)

abbrev pub is_universal : Layout → Option ℕ → Bool
is_universal l None = true
is_universal l (Some id) = is_row_id l id

abbrev pub starts_stand : Layout → Bool
starts_stand l =
    list_all (is_start_row l) l.starts && is_universal l l.universal_unanchored && is_universal l l.universal_anchored

-- ---- the patterns of match rows

-- how many rows a range of ids has
abbrev pub range_len : Layout → (first last : ℕ) → ℕ
range_len l first last = if first == 0 then 0 else (last - first) / stride l + 1

-- a list lies among the pattern ids, isn't empty, and has ids of patterns
abbrev pub is_list : Layout → ℕ → Bool
is_list l i =
    let first : ℕ = slice_index l.slices (2 * i) in
    let len : ℕ = slice_index l.slices (2 * i + 1) in
    nat_lt first (length l.pattern_ids) && nat_le (first + len) (length l.pattern_ids) && not (len == 0)
    && list_all (λ pattern. nat_lt pattern l.pattern_len) (patterns_at l i)

abbrev pub are_lists : Layout → Bool
are_lists l = list_all (is_list l) (range_with_len 0 (length l.slices / 2))

abbrev pub lists_stand : Layout → Bool
lists_stand l = (length l.slices / 2 == range_len l l.special.min_match l.special.max_match) && are_lists l

-- ---- accelerated rows

-- whether a byte doesn't lead a row to itself
abbrev pub leaves : Layout → ℕ → ℕ → Bool
leaves l id byte = not (next_id l id byte == id)

-- The bytes that don't. The word stands closed, since it goes over all bytes.
unfoldable pub leaving_id : Layout → ℕ → List ℕ
leaving_id l id = filter (leaves l id) (range_with_len 0 256)

-- there are one to three needles, and they are these bytes, rising
abbrev pub has_needles : Layout → ℕ → Bool
has_needles l i =
    let needles : List ℕ = get_or l.accels i [] in
    nat_le 1 (length needles) && nat_le (length needles) 3
    && bytes_eq needles (leaving_id l (l.special.min_accel + i * stride l))

abbrev pub accels_stand : Layout → Bool
accels_stand l =
    (length l.accels == range_len l l.special.min_accel l.special.max_accel)
    && list_all (has_needles l) (range_with_len 0 (length l.accels))

-- ---- all together

abbrev pub is_closed : Layout → Bool
is_closed l = rows_stand l && special_stand l && starts_stand l && lists_stand l && accels_stand l

-- The order of a built table's rows, as in regex-automata. Each kind that a search tests for is a range of ids: dead,
-- quit, match rows (the accelerated ones last), other accelerated rows (start rows last), other start rows, and the
-- rest.
use Rattle.std.specs.Prelude.{ℕ, ◌≡◌, ◌≤◌, ◌<◌, ◌⊎◌, ◌+◌, ◌*◌, ◌==◌, ◌&&◌, not, nat_le, nat_lt, Bool}
use Rattle.std.specs.Prelude.{if◌then◌else◌, None, List, [], length, map}
use Rattle.std.specs.List.{list_any, range_with_len, concat}
use Rattle.rx_spec.specs.Causes.{max_id}
use Rattle.rx_spec.specs.Tables.{Table, IsSound, is_match, leaving}
use Rattle.rx_dense.specs.Layouts.{Layout, IsRowId, table_of, row_count, stride, patterns_at, place_in_range}
use Rattle.rx_dense.specs.Specials.{greatest}
use Rattle.rx_dense.specs.Builder.{slices_from}

-- whether some search starts in a row behind quit
abbrev pub is_start_row : Layout → ℕ → Bool
is_start_row l row = nat_lt 1 row && list_any (λ id. id == row * stride l) l.starts

-- the kinds of rows, numbered in their order
abbrev pub kind_by : (row : ℕ) (matches accelerated starts : Bool) → ℕ
kind_by row matches accelerated starts =
    if row == 0 then 0
    else (if row == 1 then 1
    else (if matches then (if accelerated then 3 else 2)
    else (if accelerated then (if starts then 5 else 4)
    else (if starts then 6 else 7))))

-- those of accelerated rows
abbrev pub is_accel_kind : ℕ → Bool
is_accel_kind kind = nat_le 3 kind && nat_le kind 5

abbrev pub kind_of : Layout → ℕ → ℕ
kind_of l row = kind_by row (is_match (table_of l) row) ((table_of l).is_accelerated row) (is_start_row l row)

-- whether a table has rows that are marked as start rows
abbrev pub is_marked : Layout → Bool
is_marked l = not (l.special.min_start == 0)

-- a range of ids begins and ends at rows behind quit, or there are no rows in it
abbrev pub IsRange : Layout → (first last : ℕ) → Type 0
IsRange l first last =
    ((first ≡ 0) × (last ≡ 0)) ⊎ ((stride l < first) × (first ≤ last) × IsRowId l first × IsRowId l last)

-- The rows lie in their order, and the special ids are theirs. Where some row is marked as a start, all start rows are.
pub record IsOrdered (l : Layout) : Type 0 where
  pub kinds : (x y : ℕ) → x ≤ y → y < row_count l → kind_of l x ≤ kind_of l y
  pub quit : l.special.quit ≡ stride l
  pub matches : IsRange l l.special.min_match l.special.max_match
  pub accels : IsRange l l.special.min_accel l.special.max_accel
  pub starts : IsRange l l.special.min_start l.special.max_start
  pub max : l.special.max ≡ greatest l.special
  pub marks : (row : ℕ) → row < row_count l → (table_of l).is_start row ≡ (is_marked l && is_start_row l row)

-- ---- the patterns of its match rows

abbrev pub match_count : Layout → ℕ
match_count l =
    if l.special.min_match == 0 then 0 else place_in_range l l.special.min_match l.special.max_match + 1

-- the lists of patterns of the match rows, in their order
abbrev pub match_lists : Layout → List (List ℕ)
match_lists l = map (patterns_at l) (range_with_len 0 (match_count l))

-- They stand one behind another in the order of the rows, and no two share a place.
pub record AreJoined (l : Layout) : Type 0 where
  pub slices : l.slices ≡ slices_from 0 (match_lists l)
  pub pattern_ids : l.pattern_ids ≡ concat (match_lists l)

-- ---- what is asked of a table that is put in order anew, and what is left of it

-- No rows are accelerated, and there are no universal starts.
pub record IsPlain (l : Layout) : Type 0 where
  pub accels : l.accels ≡ []
  pub min_accel : l.special.min_accel ≡ 0
  pub max_accel : l.special.max_accel ≡ 0
  pub universal_unanchored : l.universal_unanchored ≡ None
  pub universal_anchored : l.universal_anchored ≡ None

-- a sound table in order, whose lists of patterns are joined by ids
pub record IsInOrder (l : Layout) : Type 0 where
  pub sound : IsSound (table_of l)
  pub ordered : IsOrdered l
  pub few : length (concat (match_lists l)) ≤ max_id

-- ---- acceleration

-- how many rows are accelerated
abbrev pub accel_count : Layout → ℕ
accel_count l =
    if l.special.min_accel == 0 then 0 else place_in_range l l.special.min_accel l.special.max_accel + 1

-- one to three bytes, none of them a space
abbrev pub are_needles : List ℕ → Bool
are_needles bytes =
    nat_le 1 (length bytes) && nat_le (length bytes) 3 && not (list_any (λ byte. byte == 32) bytes)

-- A search may skip from a row that one to three bytes lead elsewhere, none of them a space. In a table of two rows
-- there is no such row.
abbrev pub is_skippable : Table → ℕ → Bool
is_skippable t row = nat_lt 2 t.size && are_needles (leaving t row)

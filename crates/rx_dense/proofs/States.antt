-- Rows and transitions as they are handed out one by one.
use Rattle.rx_spec.proofs.Prelude.{common_steps, ◌≡◌, ℕ, suc, ◌+◌, ◌-◌, ◌*◌, ◌/◌, ◌%◌, ◌<◌, ◌≤◌, Option, Some, None}
use Rattle.rx_spec.proofs.Prelude.{List, [], ◌∷◌, length, take, drop, get_or, slice_index, refl, ap, ap₂, sym, ◌∙◌}
use Rattle.rx_spec.proofs.Prelude.{arith, map, length-drop, length-take-le, unwrap_or, flat_map, range_with_len}
use Rattle.rx_spec.proofs.Prelude.{mod-eq_of_lt, get_or-take, get_or-drop, get_or-map, length-map-range_with_len}
use Rattle.rx_spec.proofs.Prelude.{get_or-map-range_with_len, drop-cons, max_id}
use Rattle.std.proofs.lemmas.List.Concat.{get_or-flat_map}
use Rattle.rx_spec.specs.Contexts.{all_starts}
use Rattle.rx_spec.specs.declared.Start.{Start}
use Rattle.rx_base.specs.Search.{mode_of}
use Rattle.rx_base.specs.declared.search.Anchored.{Anchored as Mode}
use Rattle.rx_base.specs.ByteClasses.{alphabet_len}
use Rattle.rx_dense.specs.Layouts.{Layout, AreRows, AreStarts, context_number, mode_place, row_count, start_entries}
use Rattle.rx_dense.specs.Layouts.{start_id, stride}
use Rattle.rx_dense.specs.States.{AreNextIds, row_at, rows_from, column_unit, start_modes, starts_of, transitions_from}
use Rattle.rx_dense.proofs.Rows.{IsRowId-row, alphabet_few, id_few}

-- ---- rows

module _ (l : Layout) (row : ℕ) (h : row < row_count l) where
  pub rows_from-next : rows_from l row ≡ row_at l row ∷ rows_from l (row + 1)
  rows_from-next = grind (arith, common_steps)

  module _ (rows : AreRows l) where
    pub first_few : row * stride l ≤ max_id
    first_few = id_few l rows _ (IsRowId-row l row h)

    -- shifting the number of the row loses nothing
    pub first_shifted : row * stride l % 18446744073709551616 ≡ row * stride l
    first_shifted = mod-eq_of_lt (omega (arith, first_few))

    pub row_within : row * stride l + alphabet_len l.classes ≤ length l.words
    row_within =
        let below = (IsRowId-row l row h).below in
        let fits = rows.fits in
        omega arith

    count : length (row_at l row).next_ids ≡ alphabet_len l.classes
    count =
        length-take-le (alphabet_len l.classes) (drop (row * stride l) l.words)
        (omega (arith, length-drop (row * stride l) l.words, row_within))

    pub row-next_ids : AreNextIds (row_at l row).next_ids
    row-next_ids = record {
      some = omega (arith, count);
      few = omega (arith, count, alphabet_few l.classes rows.classes);
      ids = λ column b.
          let low : column < alphabet_len l.classes = omega (arith, count) in
          let within : row * stride l + column < length l.words = omega (arith, row_within) in
          let at =
          get_or-take (alphabet_len l.classes) (drop (row * stride l) l.words) column 0 low
          ∙ get_or-drop (row * stride l) l.words column 0 in
          omega (arith, at, id_few l rows _ (rows.next_ids (row * stride l + column) within));
    }

-- ---- transitions

pub transitions_from-next : (next_ids : List ℕ) (column : ℕ) → column < length next_ids
    → transitions_from next_ids column
    ≡ (column_unit (length next_ids) column, slice_index next_ids column) ∷ transitions_from next_ids (column + 1)
transitions_from-next next_ids column h =
    ap (λ n. map (λ c. (column_unit (length next_ids) c, slice_index next_ids c)) (range_with_len column n)) more
  where
    more : length next_ids - column ≡ suc (length next_ids - (column + 1))
    more = omega arith

-- ---- start entries

-- a mode by the place where its entries begin, and a context by its number
mode_at : (pattern_starts : Option ℕ) (mode : Mode) (group : ℕ) → mode_place (mode_of mode) ≡ 6 * group
    → group < length (start_modes pattern_starts) → get_or (start_modes pattern_starts) group mode ≡ mode
mode_at pattern_starts Mode.No group e h = grind (arith, common_steps)
mode_at pattern_starts Mode.Yes group e h = grind (arith, common_steps)
mode_at pattern_starts (Mode.Pattern k) group e h =
    grind (arith, common_steps, length-map-range_with_len, get_or-map-range_with_len)

start_at : (start : Start) → get_or all_starts (context_number start) start ≡ start
start_at Start.NonWordByte = refl
start_at _ = refl

module _ (l : Layout) where
  abbrev entry_of : Mode → Start → ℕ × Mode × Start
  entry_of mode start = (start_id l (mode_of mode) start, mode, start)

  abbrev entries_of : Mode → List (ℕ × Mode × Start)
  entries_of mode = map (entry_of mode) all_starts

  -- each mode has six
  six_each : (modes : List Mode) → length (flat_map entries_of modes) ≡ 6 * length modes
  six_each [] = refl
  six_each (mode ∷ modes) = omega (arith, six_each modes)

  module _ (starts : AreStarts l) where
    modes_count : 6 * length (start_modes l.pattern_starts) ≡ length l.starts
    modes_count = grind (arith, common_steps, length-map-range_with_len)
      where
        entries_count : (pattern_starts : Option ℕ) → start_entries pattern_starts ≡ 12 + 6 * unwrap_or pattern_starts 0
        entries_count None = refl
        entries_count (Some n) = refl

    pub starts_of-len : length (starts_of l) ≡ length l.starts
    starts_of-len = six_each (start_modes l.pattern_starts) ∙ modes_count

    -- the entry at a place, and what is left from there on
    module _ (place : ℕ) (h : place < length l.starts) (mode : Mode) (start : Start)
        (mode_is : mode_place (mode_of mode) ≡ 6 * (place / 6)) (start_is : context_number start ≡ place % 6) where
      id_there : start_id l (mode_of mode) start ≡ slice_index l.starts place
      id_there = grind (arith, common_steps)

      entry_there : (other : ℕ × Mode × Start) → get_or (starts_of l) place other ≡ entry_of mode start
      entry_there other =
          let modes : List Mode = start_modes l.pattern_starts in
          let group : ℕ = place / 6 in
          let number : ℕ = place % 6 in
          let in_modes : group < length modes = omega (arith, modes_count) in
          let in_six : number < 6 = omega arith in
          let taken : length (take group modes) ≡ group = length-take-le group modes (omega arith) in
          let before : length (flat_map entries_of (take group modes)) + number ≡ place =
          omega (arith, six_each (take group modes)) in
          ap (λ at. get_or (starts_of l) at other) (sym before)
          ∙ get_or-flat_map entries_of modes group number mode other in_modes in_six
          ∙ ap (λ m. get_or (entries_of m) number other) (mode_at l.pattern_starts mode group mode_is in_modes)
          ∙ get_or-map (entry_of mode) all_starts number start other in_six
          ∙ ap (λ n. entry_of mode (get_or all_starts n start)) (sym start_is)
          ∙ ap (entry_of mode) (start_at start)

      pub starts_of-next : drop place (starts_of l)
          ≡ (slice_index l.starts place, mode, start) ∷ drop (place + 1) (starts_of l)
      starts_of-next =
          let next : suc place ≡ place + 1 = omega arith in
          drop-cons (starts_of l) place (entry_of mode start) (omega (arith, starts_of-len))
          ∙ ap₂ (λ (entry : ℕ × Mode × Start) (n : ℕ). entry ∷ drop n (starts_of l))
          (entry_there (entry_of mode start)) next
          ∙ ap (λ (id : ℕ). (id, mode, start) ∷ drop (place + 1) (starts_of l)) id_there

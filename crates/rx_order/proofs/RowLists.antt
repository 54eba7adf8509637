-- The rows of a dense table as lists, when two of them change places and when they are renamed.
use Rattle.rx_spec.proofs.Prelude.{common_steps, get_or-set_at, ◌≡◌, ◌≢◌, ℕ, ◌+◌, ◌*◌, ◌/◌, ◌%◌, ◌<◌, ◌≤◌, List, []}
use Rattle.rx_spec.proofs.Prelude.{length, map, slice_index, get_or, refl, sym, ap, ◌∙◌, arith, subst, ⊎_elim, inl, inr}
use Rattle.rx_spec.proofs.Prelude.{All, range_with_len, swap, cases_eq, lt-ltb, ext_get_or, get_or-map}
use Rattle.rx_spec.proofs.Prelude.{get_or-set_other, length-map, length-swap, All-from_get_or}
use Rattle.rx_spec.proofs.Prelude.{get_or-map-range_with_len, length-map-range_with_len, mod-mul-add, pow_pos}
use Rattle.rx_spec.proofs.Prelude.{mul-div_cancel}
use Rattle.rx_order.proofs.Prelude.{AreStarts, AreSwapped, IsOutside, IsRowId-row, Layout, alphabet_len, id_few}
use Rattle.rx_order.proofs.Prelude.{length-set, quotient, renamed_word, row-below, row_count, rows_apart, stride}
use Rattle.rx_order.proofs.Prelude.{swap_is, with_ids, with_swapped}
use Rattle.rx_order.specs.Transitions as remap
use Rattle.rx_dense.specs.Builder.{renamed}
use Rattle.rx_dense.specs.Layouts.{AreRows, IsRowId}
use Rattle.rx_order.specs.RowLists.{row_ids, transitions_of}

-- a function of the numbers below a bound, given another way
pub same_range : {X : Type 0} (f g : ℕ → X) (n : ℕ) (d : X) → ((k : ℕ) → k < n → f k ≡ g k)
    → map f (range_with_len 0 n) ≡ map g (range_with_len 0 n)
same_range f g n d same =
    let count = length-map-range_with_len f 0 n in
    let other = length-map-range_with_len g 0 n in
    ext_get_or d (map f (range_with_len 0 n)) (map g (range_with_len 0 n)) (omega (arith, count, other))
    (λ k h.
    let low : k < n = omega (arith, count, h) in
    get_or-map-range_with_len f 0 n k k d low (omega arith) ∙ same k low
    ∙ sym (get_or-map-range_with_len g 0 n k k d low (omega arith)))

module _ (l : Layout) where
  pub row_lists_count : length (transitions_of l).rows ≡ row_count l
  row_lists_count = length-map-range_with_len (row_ids l) 0 (row_count l)

  pub row_list_at : (row : ℕ) → row < row_count l → get_or (transitions_of l).rows row [] ≡ row_ids l row
  row_list_at row h = get_or-map-range_with_len (row_ids l) 0 (row_count l) row row [] h (omega arith)

  -- ids of rows are ids of rows
  pub id_of_list : (id : ℕ) → IsRowId l id → remap.IsRowId (transitions_of l) id
  id_of_list id is = record { whole = is.whole; below = omega (arith, row_lists_count, row-below l id is) }

  pub id_in_words : (id : ℕ) → remap.IsRowId (transitions_of l) id → IsRowId l id
  id_in_words id is = grind (arith, common_steps, row_lists_count, quotient)

  pub are_row_lists : AreRows l → AreStarts l → remap.AreRows (transitions_of l)
  are_row_lists rows starts = record {
    exponent = omega (arith, rows.exponent);
    ids =
        λ row h.
        id_few l rows (row * stride l) (IsRowId-row l row (omega (arith, row_lists_count, h)));
    entries =
        All-from_get_or (All (remap.IsRowId (transitions_of l))) (transitions_of l).rows []
        (λ row h.
        let low : row < row_count l = omega (arith, row_lists_count, h) in
        let at = row_list_at row low in
        entries_of row low (get_or (transitions_of l).rows row []) at);
    starts = All-from_get_or (remap.IsRowId (transitions_of l)) l.starts 0 (λ k h. id_of_list _ (starts.start_ids k h));
  }
    where
      entries_of : (row : ℕ) → row < row_count l → (ids : List ℕ) → ids ≡ row_ids l row
          → All (remap.IsRowId (transitions_of l)) ids
      entries_of row low ids is =
          let count = length-map-range_with_len (λ column. slice_index l.words (row * stride l + column)) 0
          (alphabet_len l.classes) in
          let below = (IsRowId-row l row low).below in
          let fits = rows.fits in
          All-from_get_or (remap.IsRowId (transitions_of l)) ids 0
          (λ column h.
          let inside : column < alphabet_len l.classes = omega (arith, count, ap length is, h) in
          let place : row * stride l + column < length l.words = omega arith in
          let word : slice_index l.words (row * stride l + column) ≡ get_or ids column 0 =
          sym (ap (λ xs. get_or xs column 0) is
          ∙ get_or-map-range_with_len (λ c. slice_index l.words (row * stride l + c)) 0 (alphabet_len l.classes)
          column column 0 inside (omega arith)) in
          subst (remap.IsRowId (transitions_of l)) word (id_of_list _ (rows.next_ids _ place)))

-- ---- two rows in each other's place

-- what a list has at a place, once two of its members have changed places
record IsSwappedAt {X : Type 0} (xs : List X) (i j k : ℕ) (d : X) : Type 0 where
  pub at_second : k ≡ j → get_or (swap xs i j) k d ≡ get_or xs i d
  pub at_first : k ≢ j → k ≡ i → get_or (swap xs i j) k d ≡ get_or xs j d
  pub elsewhere : k ≢ j → k ≢ i → get_or (swap xs i j) k d ≡ get_or xs k d

swapped_at : {X : Type 0} (xs : List X) (i j k : ℕ) (d : X) → i < length xs → j < length xs
    → IsSwappedAt xs i j k d
swapped_at {X} xs i j k d hi hj = grind (arith, common_steps, length-set, swap_is, get_or-set_at, get_or-set_other)

module _ (l : Layout) (words : List ℕ) (first second : ℕ) (rows : AreRows l) (is_first : IsRowId l first)
    (is_second : IsRowId l second) (sw : AreSwapped (stride l) l.words words first second) where
  i : ℕ
  i = first / stride l

  j : ℕ
  j = second / stride l

  fits : alphabet_len l.classes ≤ stride l
  fits = rows.fits

  -- a row that leads where another led
  leads_as : (k row : ℕ) → ((c : ℕ) → c < stride l
      → slice_index words (k * stride l + c) ≡ slice_index l.words (row * stride l + c))
      → row_ids (record l { words = words }) k ≡ row_ids l row
  leads_as k row same =
      same_range (λ c. slice_index words (k * stride l + c)) (λ c. slice_index l.words (row * stride l + c))
      (alphabet_len l.classes) 0 (λ c h. same c (omega (arith, h, fits)))

  -- the words of other rows
  outside : (k id c : ℕ) → k < row_count l → IsRowId l id → k ≢ id / stride l → c < stride l
      → IsOutside id (stride l) (k * stride l + c)
  outside k id c low is other h =
      let apart : k * stride l ≢ id =
      λ e. other (sym (mul-div_cancel k (pow_pos l.stride2)) ∙ ap (λ n. n / stride l) e) in
      ⊎_elim
      (λ (before : k * stride l + stride l ≤ id).
      let below : k * stride l + c < id = omega arith in
      inl below)
      (λ (after : id + stride l ≤ k * stride l).
      let above : id + stride l ≤ k * stride l + c = omega arith in
      inr above)
      (rows_apart l (k * stride l) id (IsRowId-row l k low) is apart)

  row_now : (k : ℕ) → k < row_count l
      → row_ids (record l { words = words }) k ≡ get_or (swap (transitions_of l).rows i j) k []
  unfolding i j
  row_now k low =
      let lists = (transitions_of l).rows in
      let count = row_lists_count l in
      let low_first = row-below l first is_first in
      let low_second = row-below l second is_second in
      let at = swapped_at lists i j k [] (omega (arith, count, low_first)) (omega (arith, count, low_second)) in
      let first_is = quotient first (stride l) is_first.whole in
      let second_is = quotient second (stride l) is_second.whole in
      ⊎_elim
      (λ (e : k ≡ j).
      leads_as k i
      (λ c h.
      ap (λ n. slice_index words (n + c)) (ap (λ r. r * stride l) e ∙ second_is) ∙ sw.at_second c h
      ∙ ap (λ n. slice_index l.words (n + c)) (sym first_is))
      ∙ sym (row_list_at l i low_first) ∙ sym (at.at_second e))
      (λ (n : k ≢ j).
      ⊎_elim
      (λ (e : k ≡ i).
      leads_as k j
      (λ c h.
      ap (λ m. slice_index words (m + c)) (ap (λ r. r * stride l) e ∙ first_is) ∙ sw.at_first c h
      ∙ ap (λ m. slice_index l.words (m + c)) (sym second_is))
      ∙ sym (row_list_at l j low_second) ∙ sym (at.at_first n e))
      (λ (m : k ≢ i).
      leads_as k k
      (λ c h. sw.others (k * stride l + c) (outside k first c low is_first m h) (outside k second c low is_second n h))
      ∙ sym (row_list_at l k low) ∙ sym (at.elsewhere n m))
      (cases_eq k i))
      (cases_eq k j)

  pub rows_swapped : transitions_of (record l { words = words })
      ≡ with_swapped (transitions_of l) (first / stride l) (second / stride l)
  unfolding i j
  rows_swapped =
      let lists = (transitions_of l).rows in
      let after : Layout = record l { words = words } in
      let size : row_count after ≡ row_count l = ap (λ n. n / stride l) sw.count in
      let count = row_lists_count after in
      let other = length-swap lists i j in
      ap (λ (ids : List (List ℕ)). record (transitions_of l) { rows = ids })
      (ext_get_or [] (transitions_of after).rows (swap lists i j)
      (omega (arith, count, other, row_lists_count l, size))
      (λ k h.
      let low : k < row_count l = omega (arith, h, count, size) in
      row_list_at after k (omega (arith, h, count)) ∙ row_now k low))

-- ---- rows that are renamed

module _ (l : Layout) (ids : List ℕ) (rows : AreRows l) where
  words_count : length (renamed l ids).words ≡ length l.words
  words_count = length-map-range_with_len (renamed_word l ids) 0 (length l.words)

  row_renamed : (row : ℕ) → row < row_count l
      → row_ids (renamed l ids) row ≡ map (λ id. slice_index ids (id / stride l)) (row_ids l row)
  row_renamed row low =
      let alphabet = alphabet_len l.classes in
      let after = λ (c : ℕ). slice_index (renamed l ids).words (row * stride l + c) in
      let before = λ (c : ℕ). slice_index l.words (row * stride l + c) in
      let count = length-map-range_with_len after 0 alphabet in
      let old = length-map-range_with_len before 0 alphabet in
      let other = length-map (row_ids l row) (λ id. slice_index ids (id / stride l)) in
      let below = (IsRowId-row l row low).below in
      let fits = rows.fits in
      ext_get_or 0 (row_ids (renamed l ids) row) (map (λ id. slice_index ids (id / stride l)) (row_ids l row))
      (omega (arith, count, other, old))
      (λ c h.
      let inside : c < alphabet = omega (arith, h, count) in
      let place : row * stride l + c < length l.words = omega arith in
      let column_is : (row * stride l + c) % stride l ≡ c = mod-mul-add row (stride l) c (omega arith) in
      get_or-map-range_with_len after 0 alphabet c c 0 inside (omega arith)
      ∙ get_or-map-range_with_len (renamed_word l ids) 0 (length l.words) (row * stride l + c) (row * stride l + c) 0
      place (omega arith)
      ∙ rw (column_is, lt-ltb _ _ inside) refl
      ∙ ap (λ id. slice_index ids (id / stride l))
      (sym (get_or-map-range_with_len before 0 alphabet c c 0 inside (omega arith)))
      ∙ sym (get_or-map (λ id. slice_index ids (id / stride l)) (row_ids l row) c 0 0 (omega (arith, old, inside))))

  pub rows_renamed : transitions_of (renamed l ids)
      ≡ with_ids (λ id. slice_index ids (id / stride l)) (transitions_of l)
  rows_renamed =
      let lists = (transitions_of l).rows in
      let rename = λ (xs : List ℕ). map (λ id. slice_index ids (id / stride l)) xs in
      let after = renamed l ids in
      let size : row_count after ≡ row_count l = ap (λ n. n / stride l) words_count in
      let count = row_lists_count after in
      let other = length-map lists rename in
      ap (λ (rs : List (List ℕ)). record (transitions_of after) { rows = rs })
      (ext_get_or [] (transitions_of after).rows (map rename lists)
      (omega (arith, count, other, row_lists_count l, size))
      (λ k h.
      let low : k < row_count l = omega (arith, h, count, size) in
      row_list_at after k (omega (arith, h, count)) ∙ row_renamed k low ∙ ap rename (sym (row_list_at l k low))
      ∙ sym (get_or-map rename lists k [] [] (omega (arith, row_lists_count l, low)))))

-- Rows that move down to their indices in a list and are renamed there, and the others, which are cut off.
use Rattle.rx_spec.proofs.Prelude.{common_steps, ◌≡◌, ℕ, ◌+◌, ◌-◌, ◌*◌, ◌/◌, ◌%◌, ◌^◌, ◌<◌, ◌≤◌, ◌⊎◌, List, length, map}
use Rattle.rx_spec.proofs.Prelude.{take, All, refl, slice_index, ◌∙◌, ⊎_elim, arith, inl, inr, ap, sym, subst, cases_lt}
use Rattle.rx_spec.proofs.Prelude.{cases_eq, mod-mul-add, div-add-mod', pow_pos, mul-le, row_fits, mod-eq_of_lt}
use Rattle.rx_spec.proofs.Prelude.{length-take-le, get_or-take, get_or-map, length-map, All-get_or, All-from_get_or}
use Rattle.rx_spec.proofs.Prelude.{range_with_len, lt-ltb, le-ltb, fill_by_all}
use Rattle.std.proofs.Math.Nat.{mod-lt}
use Rattle.rx_base.specs.ByteClasses.{alphabet_len}
use Rattle.rx_search.specs.Starts.{IsId}
use Rattle.rx_dense.specs.Builder.{AreMovedDown, IsMovedDown, IsOutside, kept, renamed_id, renamed_word, with_rows}
use Rattle.rx_dense.specs.Layouts.{Layout, IsRowId, IsShaped, ids_of, row_count, stride}
use Rattle.rx_dense.proofs.Rows.{IsRowId-id, IsRowId-row, row-below, stride_few}
use Rattle.rx_dense.proofs.Shaped.{id_kept, shaped_cut, shaped_starts, shaped_words}

-- rows are shifted whole
pub row_shifted : (s row : ℕ) → s ≤ 9 → row < 4294967296 → row * 2 ^ s % 18446744073709551616 ≡ row * 2 ^ s
row_shifted s row h few = grind (arith, common_steps, mod-eq_of_lt, mul-le, stride_few)

-- a row that moves down lies behind its place
pub lies_apart : (s alphabet place row : ℕ) → alphabet ≤ 2 ^ s → place ≤ row
    → (place * 2 ^ s ≡ row * 2 ^ s) ⊎ (place * 2 ^ s + alphabet ≤ row * 2 ^ s)
lies_apart s alphabet place row fits down = grind (arith, common_steps, row_fits, cases_eq)

module _ {s alphabet : ℕ} {ids rows old now : List ℕ} {place : ℕ} (fits : alphabet ≤ 2 ^ s)
    (down : (k : ℕ) → k < length rows → k ≤ slice_index rows k) (within : place < length rows)
    (moved : AreMovedDown s alphabet ids rows place old now) where
  pub unmoved : (c : ℕ) → slice_index now (slice_index rows place * 2 ^ s + c)
      ≡ slice_index old (slice_index rows place * 2 ^ s + c)
  unmoved c = grind (arith, common_steps, mul-le)

  outside : (k : ℕ) → alphabet ≤ k % 2 ^ s → IsOutside (place * 2 ^ s) alphabet k
  outside k past =
      ⊎_elim
      (λ (low : k < place * 2 ^ s). inl low)
      (λ (from : place * 2 ^ s ≤ k).
      ⊎_elim
      (λ (inside : k - place * 2 ^ s < alphabet).
      let at : place * 2 ^ s + (k - place * 2 ^ s) ≡ k = omega arith in
      let column = subst (λ x. x % 2 ^ s ≡ k - place * 2 ^ s) at
      (mod-mul-add place (2 ^ s) (k - place * 2 ^ s) (omega arith)) in
      inl (omega (arith, past, column, inside)))
      (λ (behind : alphabet ≤ k - place * 2 ^ s). inr (omega arith))
      (cases_lt (k - place * 2 ^ s) alphabet))
      (cases_lt k (place * 2 ^ s))

  pub row_down : {new : List ℕ} → IsMovedDown s ids alphabet now new (slice_index rows place * 2 ^ s) (place * 2 ^ s)
      → AreMovedDown s alphabet ids rows (place + 1) old new
  row_down {new} m = record {
    length_is = m.count ∙ moved.length_is;
    moved = λ p c low inside.
        ⊎_elim
        (λ (e : p ≡ place).
        subst
        (λ p. slice_index new (p * 2 ^ s + c)
        ≡ slice_index ids (slice_index old (slice_index rows p * 2 ^ s + c) / 2 ^ s)) (sym e)
        (m.there c inside ∙ ap (λ x. slice_index ids (x / 2 ^ s)) (unmoved c)))
        (λ (ne : p ≡ place → ⊥).
        let before : p < place = omega arith in
        let fit = row_fits p (2 ^ s) place (2 ^ s) before (omega arith) in
        m.others (p * 2 ^ s + c) (inl (omega (arith, fit, inside, fits))) ∙ moved.moved p c before inside)
        (cases_eq p place);
    padding = λ k past. m.others k (outside k past) ∙ moved.padding k past;
    behind = λ k b.
        m.others k (inr (omega (arith, b, fits))) ∙ moved.behind k (omega (arith, b));
  }

-- which rows are kept, and under which ids
pub record IsKeeping (l : Layout) (rows ids : List ℕ) : Type 0 where
  pub two : 2 ≤ length rows
  pub within : (k : ℕ) → k < length rows → slice_index rows k < row_count l
  pub down : (k : ℕ) → k < length rows → k ≤ slice_index rows k
  pub count : length ids ≡ row_count l
  pub are_ids : All (IsId (ids_of (with_rows l (length rows)))) ids
  pub shaped : IsShaped l

module _ {l : Layout} {rows ids : List ℕ} (keeping : IsKeeping l rows ids) where
  pub rows_few : length rows ≤ row_count l
  rows_few =
      let last : length rows - 1 < length rows = omega (arith, keeping.two) in
      omega (arith, keeping.within (length rows - 1) last, keeping.down (length rows - 1) last)

  room : length rows * stride l ≤ length l.words
  room =
      omega (
        arith,
        mul-le (length rows) (stride l) (row_count l) (stride l) rows_few (omega arith),
        div-add-mod' (length l.words) (stride l),
      )

  pub kept_shifted : length rows * stride l % 18446744073709551616 ≡ length rows * stride l
  kept_shifted =
      mod-eq_of_lt (omega (arith, room, keeping.shaped.rows.few, stride_few l.stride2 keeping.shaped.rows.exponent))

  place_low : (k : ℕ) → k < length rows * stride l → k / stride l < length rows
  place_low k b =
      ⊎_elim (λ (low : k / stride l < length rows). low)
      (λ (past : length rows ≤ k / stride l).
      let fits = mul-le (length rows) (stride l) (k / stride l) (stride l) past (omega arith) in
      absurd (omega (arith, fits, div-add-mod' k (stride l), b)))
      (cases_lt (k / stride l) (length rows))

  -- the new id of a row is one of a row that is kept
  new_id : (id : ℕ) → IsRowId l id → IsRowId l (renamed_id l ids id) × (renamed_id l ids id < length rows * stride l)
  new_id id is =
      let below = row-below l id is in
      let there : id / stride l < length ids = omega (arith, below, keeping.count) in
      let new =
      IsRowId-id (with_rows l (length rows)) _
      (All-get_or (IsId (ids_of (with_rows l (length rows)))) ids (id / stride l) 0 there keeping.are_ids) in
      let cut = length-take-le (length rows * stride l) l.words room in (
        record { whole = new.whole; below = omega (arith, new.below, cut, room) },
        omega (arith, new.below, cut, pow_pos l.stride2),
      )

  pub all_within : All (λ id. id / stride l < length ids) l.words
  all_within =
      All-from_get_or (λ id. id / stride l < length ids) l.words 0
      (λ k b. omega (arith, row-below l _ (keeping.shaped.rows.next_ids k b), keeping.count))

  pub starts_within : All (λ id. id / stride l < length ids) l.starts
  starts_within =
      All-from_get_or (λ id. id / stride l < length ids) l.starts 0
      (λ k b. omega (arith, row-below l _ (keeping.shaped.starts.start_ids k b), keeping.count))

  module _ {words : List ℕ}
      (moved : AreMovedDown l.stride2 (alphabet_len l.classes) ids rows (length rows) l.words words) where
    -- the word at a column of a row that is kept
    word_at : (k : ℕ) → k < length rows * stride l → k % stride l < alphabet_len l.classes
        → (row : ℕ) × (row < row_count l) × (row ≡ slice_index rows (k / stride l))
        × (slice_index words k ≡ renamed_id l ids (slice_index l.words (row * stride l + k % stride l)))
    word_at k b column =
        let place = place_low k b in (
          slice_index rows (k / stride l),
          keeping.within (k / stride l) place,
          refl,
          ap (slice_index words) (sym (div-add-mod' k (stride l))) ∙ moved.moved (k / stride l) (k % stride l) place
              column,
        )

    -- what stands there is the new id of a row
    word_new : (k : ℕ) → k < length rows * stride l → k % stride l < alphabet_len l.classes
        → IsRowId l (slice_index words k) × (slice_index words k < length rows * stride l)
    word_new k b column =
        let at = word_at k b column in
        let is = IsRowId-row l at.0 at.1 in
        let there : at.0 * stride l + k % stride l < length l.words =
        omega (arith, is.below, column, keeping.shaped.rows.fits) in
        let new = new_id _ (keeping.shaped.rows.next_ids (at.0 * stride l + k % stride l) there) in
        (subst (IsRowId l) (sym at.3) new.0, omega (arith, at.3, new.1))

    old_id : (k : ℕ) → k < length l.words → slice_index words k ≡ slice_index l.words k
        → IsRowId l (slice_index words k)
    old_id k b same = subst (IsRowId l) (sym same) (keeping.shaped.rows.next_ids k b)

    word_is : (k : ℕ) → k < length l.words → IsRowId l (slice_index words k)
    word_is k b =
        ⊎_elim
        (λ (column : k % stride l < alphabet_len l.classes).
        ⊎_elim
        (λ (kept : k < length rows * stride l). (word_new k kept column).0)
        (λ (behind : length rows * stride l ≤ k). old_id k b (moved.behind k behind))
        (cases_lt k (length rows * stride l)))
        (λ (past : alphabet_len l.classes ≤ k % stride l). old_id k b (moved.padding k past))
        (cases_lt (k % stride l) (alphabet_len l.classes))

    padding_is : (k : ℕ) → k < length l.words → alphabet_len l.classes ≤ k % stride l → slice_index words k ≡ 0
    padding_is k b past = moved.padding k past ∙ keeping.shaped.rows.past_alphabet k b past

    word_low : (k : ℕ) → k < length rows * stride l → slice_index words k < length rows * stride l
    word_low k b =
        ⊎_elim
        (λ (column : k % stride l < alphabet_len l.classes). (word_new k b column).1)
        (λ (past : alphabet_len l.classes ≤ k % stride l). omega (arith, padding_is k (omega (arith, room)) past))
        (cases_lt (k % stride l) (alphabet_len l.classes))

    pub words_kept : take (length rows * stride l) words
        ≡ map (λ k. renamed_word l ids (slice_index rows (k / stride l) * stride l + k % stride l))
        (range_with_len 0 (length rows * stride l))
    words_kept =
        fill_by_all (λ k. renamed_word l ids (slice_index rows (k / stride l) * stride l + k % stride l))
        (take (length rows * stride l) words) (length rows * stride l) 0
        (length-take-le (length rows * stride l) words (omega (arith, room, moved.length_is)))
        (λ k b.
        let c = k % stride l in
        let row = slice_index rows (k / stride l) in
        let column_is : (row * stride l + c) % stride l ≡ c = mod-mul-add row (stride l) c
        (mod-lt k (pow_pos l.stride2)) in
        get_or-take (length rows * stride l) words k 0 b
        ∙ ⊎_elim
        (λ (column : c < alphabet_len l.classes).
        rw (column_is, lt-ltb _ _ column) (
        let at = word_at k b column in
        at.3 ∙ ap (λ row. renamed_id l ids (slice_index l.words (row * stride l + c))) at.2))
        (λ (past : alphabet_len l.classes ≤ c).
        rw (column_is, le-ltb _ _ past) (padding_is k (omega (arith, room)) past ∙ sym (zero_at k b past)))
        (cases_lt c (alphabet_len l.classes)))
      where
        zero_at : (k : ℕ) → k < length rows * stride l → alphabet_len l.classes ≤ k % stride l
            → slice_index l.words (slice_index rows (k / stride l) * stride l + k % stride l) ≡ 0
        zero_at k b past =
            let is = IsRowId-row l (slice_index rows (k / stride l)) (keeping.within (k / stride l) (place_low k b))
            in
            let c = mod-lt k (pow_pos l.stride2) in
            let column = mod-mul-add (slice_index rows (k / stride l)) (stride l) (k % stride l) c in
            keeping.shaped.rows.past_alphabet _ (omega (arith, is.below, c)) (omega (arith, column, past))

    pub shaped_kept : IsShaped (kept l rows ids)
    shaped_kept =
        subst (λ (ws : List ℕ). IsShaped (record l { words = ws; starts = map (renamed_id l ids) l.starts }))
        words_kept
        (shaped_cut (record l { words = words; starts = map (renamed_id l ids) l.starts }) (length rows) keeping.two
        (omega (arith, rows_few, ap (λ n. n / stride l) moved.length_is)) word_low
        (λ k b. omega (arith, start_at k b, (new_id _ (keeping.shaped.starts.start_ids k (low k b))).1))
        (shaped_starts (record l { words = words }) (map (renamed_id l ids) l.starts)
        (length-map l.starts (renamed_id l ids))
        (λ k b. subst (IsRowId (record l { words = words })) (sym (get_or-map (renamed_id l ids) l.starts k 0 0 b))
        (id_kept l (record l { words = words }) _ refl (omega (arith, moved.length_is))
        (new_id _ (keeping.shaped.starts.start_ids k b)).0))
        (shaped_words l words moved.length_is word_is padding_is keeping.shaped)))
      where
        low : (k : ℕ) → k < length (map (renamed_id l ids) l.starts) → k < length l.starts
        low k b = omega (arith, length-map l.starts (renamed_id l ids))

        start_at : (k : ℕ) → k < length (map (renamed_id l ids) l.starts)
            → slice_index (map (renamed_id l ids) l.starts) k ≡ renamed_id l ids (slice_index l.starts k)
        start_at k b = get_or-map (renamed_id l ids) l.starts k 0 0 (low k b)

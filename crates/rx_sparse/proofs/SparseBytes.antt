-- A sparse table on its way: offsets and bytes of some rows of a dense table, where others are left.
use Rattle.rx_spec.proofs.Prelude.{common_steps, ◌≡◌, ℕ, ◌+◌, ◌-◌, ◌/◌, ◌^◌, ◌<◌, ◌≤◌, List, [], ◌∷◌, ◌++◌, length, map}
use Rattle.rx_spec.proofs.Prelude.{slice_index, take, Option, Some, None, refl, ap, ap₂, sym, ◌∙◌, subst, ⊎_elim}
use Rattle.rx_spec.proofs.Prelude.{append_assoc, arith, option_map, cases_lt, append-nil, take_all, length-map, max_id}
use Rattle.rx_spec.proofs.Prelude.{id_of, row_of, Anchored}
use Rattle.rx_wire.specs.declared.order.Order.{Order}
use Rattle.rx_search.specs.Starts.{IsId, universal_start}
use Rattle.rx_dense.specs.Layouts as dense
use Rattle.rx_dense.specs.Layouts.{IsRowId, stride}
use Rattle.rx_dense.specs.Builder.{renamed_id}
use Rattle.rx_dense.specs.Facts as dense_facts
use Rattle.rx_dense.specs.States as states
use Rattle.rx_dense.proofs.Rows.{IsId-row_id, IsRowId-id, IsRowId-row, row-below, row_of-id}
use Rattle.rx_dense.proofs.States.{rows_from-next}
use Rattle.rx_wire.proofs.Words.{length-words, words_again}
use Rattle.rx_sparse.specs.declared.offsets.Offsets.{Offsets}
use Rattle.rx_sparse.specs.Rows.{Row, next_ids, offsets_from, row_len, row_text, rows_in, rows_len, rows_text, words_in}
use Rattle.rx_sparse.specs.Rows.{words_text}
use Rattle.rx_sparse.specs.Facts.{offset_at}
use Rattle.rx_sparse.specs.Layouts.{IsShaped, Stored}
use Rattle.rx_sparse.specs.Parts.{AreParts, stored}
use Rattle.rx_sparse.specs.Reading.{AreOffsets, HaveOffsets, offset_in, parts_of}
use Rattle.rx_sparse.specs.Sparse.{AreSpecialRows, dense_rows, little_sparse_of, offsets_of, renamed_row, row_of_dense}
use Rattle.rx_sparse.specs.Sparse.{IsTooLong, sparse_len, sparse_of, universal_offset}
use Rattle.rx_expr.specs.declared.build_error.BuildErrorKind.{BuildErrorKind}
use Rattle.rx_sparse.proofs.RowLengths.{row_len-patterns, rows_len-take}
use Rattle.rx_sparse.proofs.RowPlaces.{fits_row, id_small, each_next}
use Rattle.rx_sparse.proofs.RowTexts.{rows_again}
use Rattle.rx_sparse.proofs.SparseShapes.{next_ids_few, sparse_shaped, range_id, eoi_id}
use Rattle.rx_sparse.proofs.SparseTables.{offsets_count, rows_count}

-- ---- the rows that are left

no_rows_from : (l : dense.Layout) (place : ℕ) → dense.row_count l ≤ place → states.rows_from l place ≡ []
no_rows_from l place h = grind (arith, common_steps)

-- the first of those that are left, and the others
record IsNext (l : dense.Layout) (place : ℕ) (row : states.Row) (rest : List states.Row) : Type 0 where
  pub below : place < dense.row_count l
  pub is : row ≡ states.row_at l place
  pub rest_is : rest ≡ states.rows_from l (place + 1)

next_row : (l : dense.Layout) (place : ℕ) {row : states.Row} {left rest : List states.Row}
    → left ≡ states.rows_from l place → left ≡ row ∷ rest → IsNext l place row rest
next_row l place {row} {left} {rest} all some =
    ⊎_elim
    (λ (h : place < dense.row_count l).
    let next = rows_from-next l place h in
    let is : row ≡ states.row_at l place = cc in
    let rest_is : rest ≡ states.rows_from l (place + 1) = cc in
    record { below = h; is = is; rest_is = rest_is })
    (λ (h : dense.row_count l ≤ place). absurd (let none = no_rows_from l place h in cc))
    (cases_lt place (dense.row_count l))

-- ---- offsets

-- so many offsets were noted, and the rest of the rows begins at a place
pub record AreNoted (l : dense.Layout) (ids : List ℕ) (len : ℕ) (left : List states.Row) : Type 0 where
  pub place : ℕ
  pub left_is : left ≡ states.rows_from l place
  pub ids_are : ids ++ offsets_from len (map (row_of_dense l) left) ≡ offsets_of l
  pub len_is : len + rows_len (map (row_of_dense l) left) ≡ sparse_len l
  pub few : len ≤ max_id

pub none_noted : (l : dense.Layout) → AreNoted l [] 0 (states.rows_from l 0)
none_noted l = record { place = 0; left_is = refl; ids_are = refl; len_is = omega arith; few = omega arith }

module _ {l : dense.Layout} {ids : List ℕ} {len : ℕ} {left rest : List states.Row} {row : states.Row}
    (noted : AreNoted l ids len left) (some : left ≡ row ∷ rest) where
  next : IsNext l noted.place row rest
  next = next_row l noted.place noted.left_is some

  pub noted_id : IsId (dense.ids_of l) row.id
  noted_id =
      subst (λ (r : states.Row). IsId (dense.ids_of l) r.id) (sym next.is)
      (IsId-row_id l _ (IsRowId-row l noted.place next.below))

  pub noted_few : dense.AreRows l → length row.next_ids ≤ 257
  noted_few rows =
      subst (λ (r : states.Row). length r.next_ids ≤ 257) (sym next.is) (next_ids_few l rows noted.place next.below)

  pub too_long : max_id < len + row_len (row_of_dense l row) → max_id < sparse_len l
  unfolding rows_len
  too_long h = omega (arith, ap (λ rs. len + rows_len (map (row_of_dense l) rs)) (sym some) ∙ noted.len_is)

  pub one_noted : {more : List ℕ} {end : ℕ} → more ≡ ids ++ len ∷ [] → end ≡ len + row_len (row_of_dense l row)
      → end ≤ max_id → AreNoted l more end rest
  unfolding rows_len offsets_from
  one_noted {more} {end} e at few = record {
    place = noted.place + 1;
    left_is = next.rest_is;
    ids_are =
        ap₂ (λ xs n. xs ++ offsets_from n (map (row_of_dense l) rest)) e at
        ∙ append_assoc ids (len ∷ []) (offsets_from (len + row_len (row_of_dense l row)) (map (row_of_dense l) rest))
        ∙ ap (λ rs. ids ++ offsets_from len (map (row_of_dense l) rs)) (sym some)
        ∙ noted.ids_are;
    len_is = omega (arith, at, ap (λ rs. len + rows_len (map (row_of_dense l) rs)) (sym some) ∙ noted.len_is);
    few = few;
  }

module _ {l : dense.Layout} {ids : List ℕ} {len : ℕ} {left : List states.Row} (noted : AreNoted l ids len left)
    (none : left ≡ []) where
  pub all_noted : ids ≡ offsets_of l
  unfolding offsets_from
  all_noted = grind (arith, common_steps, append-nil)

  pub len_noted : len ≡ sparse_len l
  unfolding rows_len
  len_noted = omega (arith, ap (λ rs. len + rows_len (map (row_of_dense l) rs)) (sym none) ∙ noted.len_is)

-- ---- ids as offsets

module _ (l : dense.Layout) (o : Offsets) (are : AreOffsets l o) where
  pub offset_same : (id : ℕ) → offset_in o id ≡ renamed_id l (offsets_of l) id
  offset_same id = ap₂ (λ (ids : List ℕ) (s : ℕ). slice_index ids (id / 2 ^ s)) are.ids are.stride2

  pub offset_within : (id : ℕ) → IsRowId l id → id / 2 ^ o.stride2 < length o.ids.items
  offset_within id is = grind (arith, common_steps, row-below, offsets_count)

  pub exponent : o.stride2 ≤ 9
  exponent = let few = are.rows.exponent in omega (arith, are.stride2)

  -- an offset is an id
  pub offset_small : (id : ℕ) → IsRowId l id → offset_in o id ≤ max_id
  offset_small id is =
      omega (
        arith,
        offset_same id,
        offset_at 0 (dense_rows l) (id / stride l) (omega (arith, rows_count l are.rows, row-below l id is)),
        rows_len-take (dense_rows l) (id / stride l),
        are.fits,
      )

-- ---- bytes of rows

pub record AreWritten (l : dense.Layout) (bytes : List ℕ) (left : List states.Row) : Type 0 where
  pub place : ℕ
  pub left_is : left ≡ states.rows_from l place
  pub bytes_are : bytes
      ++ rows_text Order.Little (map (renamed_row (renamed_id l (offsets_of l))) (map (row_of_dense l) left))
      ≡ rows_text Order.Little (sparse_of l).rows
  pub room : rows_len (map (row_of_dense l) left) ≤ sparse_len l

pub none_written : (l : dense.Layout) → AreWritten l [] (states.rows_from l 0)
none_written l = record { place = 0; left_is = refl; bytes_are = refl; room = omega arith }

module _ {l : dense.Layout} {o : Offsets} {bytes : List ℕ} {left rest : List states.Row} {row : states.Row}
    (are : AreOffsets l o) (written : AreWritten l bytes left) (some : left ≡ row ∷ rest) where
  nearest : IsNext l written.place row rest
  nearest = next_row l written.place written.left_is some

  pub written_id : IsId (dense.ids_of l) row.id
  written_id =
      subst (λ (r : states.Row). IsId (dense.ids_of l) r.id) (sym nearest.is)
      (IsId-row_id l _ (IsRowId-row l written.place nearest.below))

  pub written_few : length row.next_ids ≤ 257
  written_few =
      subst (λ (r : states.Row). length r.next_ids ≤ 257) (sym nearest.is)
      (next_ids_few l are.rows written.place nearest.below)

  room_for : row_len (row_of_dense l row) + rows_len (map (row_of_dense l) rest) ≤ sparse_len l
  unfolding rows_len
  room_for = subst (λ rs. rows_len (map (row_of_dense l) rs) ≤ sparse_len l) some written.room

  pub written_patterns : length (row_of_dense l row).patterns < 2 ^ 32
  written_patterns = omega (arith, room_for, row_len-patterns (row_of_dense l row), are.fits)

  pub written_offsets : HaveOffsets o (next_ids (row_of_dense l row))
  written_offsets = record {
    exponent = exponent l o are;
    within = λ i h.
        offset_within l o are _
        (subst (λ (r : states.Row). IsRowId l (slice_index (next_ids (row_of_dense l r)) i)) (sym nearest.is)
        ((each_next (IsRowId l) (row_of_dense l (states.row_at l written.place))
        (range_id l are.rows written.place nearest.below) (eoi_id l are.rows written.place nearest.below)) i
        (subst (λ (r : states.Row). i < length (next_ids (row_of_dense l r))) nearest.is h)));
  }

  pub one_written : {more : List ℕ}
      → more ≡ bytes ++ row_text Order.Little (renamed_row (offset_in o) (row_of_dense l row))
      → AreWritten l more rest
  one_written {more} e =
      let f : ℕ → ℕ = renamed_id l (offsets_of l) in
      let others : List ℕ = rows_text Order.Little (map (renamed_row f) (map (row_of_dense l) rest)) in
      record {
        place = written.place + 1;
        left_is = nearest.rest_is;
        bytes_are =
            ap (λ xs. xs ++ others)
            (e ∙ ap (λ r. bytes ++ row_text Order.Little r)
            (ap₂ (λ (ids : List ℕ) (s : ℕ). renamed_row (λ id. slice_index ids (id / 2 ^ s)) (row_of_dense l row))
            are.ids are.stride2))
            ∙ append_assoc bytes (row_text Order.Little (renamed_row f (row_of_dense l row))) others
            ∙ ap (λ rs. bytes ++ rows_text Order.Little (map (renamed_row f) (map (row_of_dense l) rs))) (sym some)
            ∙ written.bytes_are;
        room = omega (arith, room_for);
      }

pub all_written : {l : dense.Layout} {bytes : List ℕ} {left : List states.Row} → AreWritten l bytes left → left ≡ []
    → bytes ≡ rows_text Order.Little (sparse_of l).rows
all_written {l} {bytes} written none = grind (arith, common_steps, append-nil)

-- ---- start entries

module _ (l : dense.Layout) (o : Offsets) (are : AreOffsets l o) where
  -- the words of the start entries up to a place
  abbrev pub starts_text : ℕ → List ℕ
  starts_text place = words_text Order.Little (map (offset_in o) (take place l.starts))

  pub starts_written : (place : ℕ) → length l.starts ≤ place
      → starts_text place ≡ words_text Order.Little (sparse_of l).starts
  starts_written place h =
      ap (λ xs. words_text Order.Little (map (offset_in o) xs)) (take_all place l.starts h)
      ∙ ap₂ (λ (ids : List ℕ) (s : ℕ). words_text Order.Little (map (λ id. slice_index ids (id / 2 ^ s)) l.starts))
      are.ids are.stride2

  -- ---- universal starts

  kept_offset : (kept : Option ℕ) (found : Option ℕ)
      → option_map (row_of (dense.ids_of l)) found ≡ dense.universal_row l kept
      → option_map (λ id. id_of (offsets_of l) (row_of (dense.ids_of l) id)) found ≡ universal_offset l kept
  kept_offset kept None e = ap (option_map (id_of (offsets_of l))) e
  kept_offset kept (Some id) e = ap (option_map (id_of (offsets_of l))) e

  universal_is : (mode : Anchored)
      → universal_start (dense.table_of l) mode ≡ dense.universal_row l (dense.universal_id l mode)
  universal_is Anchored.No = refl
  universal_is Anchored.Yes = refl
  universal_is (Anchored.Pattern k) = refl

  pub universal_none : (mode : Anchored) → None ≡ universal_start (dense.table_of l) mode
      → None ≡ universal_offset l (dense.universal_id l mode)
  universal_none mode e = kept_offset (dense.universal_id l mode) None (e ∙ universal_is mode)

  pub universal_some : (mode : Anchored) (id offset : ℕ) → IsId (dense.ids_of l) id
      → Some (row_of (dense.ids_of l) id) ≡ universal_start (dense.table_of l) mode
      → offset ≡ renamed_id l (offsets_of l) id → Some offset ≡ universal_offset l (dense.universal_id l mode)
  universal_some mode id offset is e at =
      ap (λ (n : ℕ). Some n)
      (at ∙ ap (slice_index (offsets_of l)) (sym (row_of-id l id (IsRowId-id l id is))))
      ∙ kept_offset (dense.universal_id l mode) (Some id) (e ∙ universal_is mode)

-- ---- the whole table

module _ (l : dense.Layout) (shaped : dense.IsShaped l) (sound : dense_facts.IsSoundLayout l)
    (special : AreSpecialRows l) (fits : sparse_len l ≤ max_id) (rows starts : List ℕ)
    (rows_are : rows ≡ rows_text Order.Little (sparse_of l).rows)
    (starts_are : starts ≡ words_text Order.Little (sparse_of l).starts) where
  abbrev sparse_rows : List Row
  sparse_rows = (sparse_of l).rows

  rows_back : rows_in Order.Little (dense.row_count l) rows ≡ sparse_rows
  rows_back =
      ap₂ (λ n bytes. rows_in Order.Little n bytes)
      (sym (length-map (dense_rows l) (renamed_row (renamed_id l (offsets_of l))) ∙ rows_count l shaped.rows))
      rows_are
      ∙ rows_again Order.Little sparse_rows
      (λ i h. fits_row (sparse_of l) (sparse_shaped l shaped sound special fits) i h)

  starts_back : words_in Order.Little (length starts / 4) starts ≡ (sparse_of l).starts
  starts_back =
      let ids : List ℕ = (sparse_of l).starts in
      let n : length starts / 4 ≡ length ids =
      omega (arith, ap length starts_are ∙ length-words Order.Little (sparse_of l).starts) in
      ap₂ (λ m bytes. words_in Order.Little m bytes) n (starts_are ∙ sym (append-nil (words_text Order.Little ids)))
      ∙ words_again Order.Little ids []
      (λ i h.
      let shape = sparse_shaped l shaped sound special fits in
      omega (arith, id_small (sparse_of l) shape _ (shape.starts.start_ids i h)))

  pub stored_is : stored (parts_of l) rows starts ≡ little_sparse_of l
  stored_is = grind (arith, common_steps, rows_back, starts_back)

  pub parts_fit : AreParts (parts_of l) rows starts
  parts_fit = record {
    whole = ap (rows_text Order.Little) rows_back ∙ sym rows_are;
    words = omega (arith, ap length starts_are ∙ length-words Order.Little (sparse_of l).starts);
    shaped = subst (λ (s : Stored). IsShaped s.layout) (sym stored_is) (sparse_shaped l shaped sound special fits);
  }

-- ---- refusals

-- what is too long is so in the whole
pub refused_whole : {some all : ℕ} → (max_id < some → max_id < all) → (kind : BuildErrorKind) → IsTooLong some kind
    → IsTooLong all kind
refused_whole f BuildErrorKind.Memory h = tt
refused_whole f BuildErrorKind.TooManyStates h = f h
refused_whole f (BuildErrorKind.NFA error) h = h
refused_whole f BuildErrorKind.Unsupported h = h
refused_whole f BuildErrorKind.TooManyMatchPatternIDs h = h
refused_whole f (BuildErrorKind.DFAExceededSizeLimit limit) h = h
refused_whole f (BuildErrorKind.DeterminizeExceededSizeLimit limit) h = h

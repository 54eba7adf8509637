-- Rows that are renamed: entries give way to the ids that a list has for their rows.
use Rattle.rx_spec.proofs.Prelude.{common_steps, ◌≡◌, ℕ, ◌+◌, ◌-◌, ◌*◌, ◌/◌, ◌%◌, ◌^◌, ◌<◌, ◌≤◌, ◌⊎◌, List, length, map}
use Rattle.rx_spec.proofs.Prelude.{take, drop, All, Bool, true, false, slice_index, refl, ◌∙◌, ⊎_elim, arith, inl, inr}
use Rattle.rx_spec.proofs.Prelude.{ap, sym, subst, length-drop, length-take-le, cases_lt, lt-ltb, le-ltb, eq-eqb}
use Rattle.rx_spec.proofs.Prelude.{ne_eqb, cases_eq, get_or-map, get_or-drop, get_or-take, length-map, All-get_or}
use Rattle.rx_spec.proofs.Prelude.{All-from_get_or, mod-mul-add, div-mul-add, pow_pos, range_with_len, ◌==◌}
use Rattle.rx_spec.proofs.Prelude.{if◌then◌else◌, fill_by_all, length-map-range_with_len, get_or-map-range_with_len}
use Rattle.std.proofs.lemmas.List.{places}
use Rattle.rx_base.specs.ByteClasses.{alphabet_len}
use Rattle.rx_search.specs.Starts.{IsId}
use Rattle.rx_dense.specs.Builder.{IsMachineRenamed, IsOutside, renamed_id, renamed_word, renamed, with_renamed_row}
use Rattle.rx_dense.specs.Layouts.{Layout, IsRowId, IsShaped, column, ids_of, mode_place, row_count, stride}
use Rattle.rx_dense.proofs.Rows.{IsRowId-id, IsRowId-row, column_within, multiple_below, row-below, start_within}
use Rattle.rx_dense.proofs.Shaped.{id_kept, shaped_words, shaped_starts}
use borrow.Rule.Slice.PartMut.{put_mid}

-- ---- a part of a list that gives way to another

pub record IsPart (words part : List ℕ) (first n : ℕ) : Type 0 where
  pub count : length part ≡ n
  pub within : first + n ≤ length words

module _ {words part : List ℕ} {first n : ℕ} (is : IsPart words part first n) where
  pub length-part : length (put_mid first n words part) ≡ length words
  length-part = (let count = is.count in let within = is.within in grind (arith, places))

  pub part_outside : (k : ℕ) → IsOutside first n k → slice_index (put_mid first n words part) k ≡ slice_index words k
  part_outside k outside = grind (arith, common_steps)

-- a part of a list, each of whose ids is renamed
pub record RenamedPart (rename : ℕ → ℕ) (words part : List ℕ) (first n : ℕ) : Type 0 where
  pub within : first + n ≤ length words
  pub ids : part ≡ map rename (take n (drop first words))

module _ {rename : ℕ → ℕ} {words part : List ℕ} {first n : ℕ} (renamed : RenamedPart rename words part first n) where
  pub renamed_part : IsPart words part first n
  renamed_part = grind (arith, common_steps)

  pub renamed_inside : (k : ℕ) → first ≤ k → k < first + n
      → slice_index (put_mid first n words part) k ≡ rename (slice_index words k)
  renamed_inside k low high =
      (let count = renamed_part.count in let within = renamed_part.within in grind (arith, places))
      ∙ ap (λ part. slice_index part (k - first)) renamed.ids
      ∙ get_or-map rename (take n (drop first words)) (k - first) 0 0
      (omega (
        arith,
        (let within = renamed.within in length-take-le n (drop first words)
            (omega (arith, length-drop first words))),
      ))
      ∙ ap rename
      (get_or-take n (drop first words) (k - first) 0 (omega arith) ∙ get_or-drop first words (k - first) 0
      ∙ ap (slice_index words) (omega arith))

-- ---- row by row

-- the entries of the first rows are renamed, and all other words are as they were
pub record RenamedBelow (s alphabet : ℕ) (rename : ℕ → ℕ) (old new : List ℕ) (rows : ℕ) : Type 0 where
  pub count : length new ≡ length old
  pub entries : (k : ℕ) → k < rows * 2 ^ s → k % 2 ^ s < alphabet → slice_index new k ≡ rename (slice_index old k)
  pub others : (k : ℕ) → k < rows * 2 ^ s → alphabet ≤ k % 2 ^ s → slice_index new k ≡ slice_index old k
  pub rest : (k : ℕ) → rows * 2 ^ s ≤ k → slice_index new k ≡ slice_index old k

module _ {s alphabet : ℕ} {rename : ℕ → ℕ} {old words : List ℕ} (row : ℕ) (fits : alphabet ≤ 2 ^ s)
    (b : row < length old / 2 ^ s) (below : RenamedBelow s alphabet rename old words row) where
  inside : row * 2 ^ s + alphabet ≤ length words
  inside = omega (arith, multiple_below row (2 ^ s) (length old) (pow_pos s) b)

  -- the ids of the next row are old ones
  pub row_ids : (P : ℕ → Type 0) → All P old → All P (take alphabet (drop (row * 2 ^ s) words))
  row_ids P old_ids = All-from_get_or P (take alphabet (drop (row * 2 ^ s) words)) 0 (λ i h.
      let low : i < alphabet =
      let rest : alphabet ≤ length (drop (row * 2 ^ s) words) =
      omega (arith, inside, length-drop (row * 2 ^ s) words) in
      omega (arith, length-take-le alphabet (drop (row * 2 ^ s) words) rest) in
      subst P
      (sym
      (get_or-take alphabet (drop (row * 2 ^ s) words) i 0 low ∙ get_or-drop (row * 2 ^ s) words i 0
      ∙ below.rest (row * 2 ^ s + i) (omega arith)))
      (All-get_or P old (row * 2 ^ s + i) 0 (omega (arith, inside)) old_ids))

  -- the next row, renamed
  pub row_more : (part : List ℕ) → part ≡ map rename (take alphabet (drop (row * 2 ^ s) words))
      → RenamedBelow s alphabet rename old (put_mid (row * 2 ^ s) alphabet words part) (row + 1)
  row_more part ids = record {
    count = length-part (renamed_part renamed) ∙ below.count;
    entries = λ k b column.
        ⊎_elim
        (λ (h : k < row * 2 ^ s). outside k (inl h) ∙ below.entries k h column)
        (λ (h : row * 2 ^ s ≤ k).
        renamed_inside renamed k h (omega (arith, at k h b)) ∙ ap rename (below.rest k h))
        (cases_lt k (row * 2 ^ s));
    others = λ k b past.
        ⊎_elim
        (λ (h : k < row * 2 ^ s). outside k (inl h) ∙ below.others k h past)
        (λ (h : row * 2 ^ s ≤ k). outside k (inr (omega (arith, at k h b))) ∙ below.rest k h)
        (cases_lt k (row * 2 ^ s));
    rest = λ k b. outside k (inr (omega arith)) ∙ below.rest k (omega arith);
  }
    where
      renamed : RenamedPart rename words part (row * 2 ^ s) alphabet
      renamed = record { within = inside; ids = ids }

      outside : (k : ℕ) → IsOutside (row * 2 ^ s) alphabet k
          → slice_index (put_mid (row * 2 ^ s) alphabet words part) k ≡ slice_index words k
      outside = part_outside (renamed_part renamed)

      at : (k : ℕ) → row * 2 ^ s ≤ k → k < (row + 1) * 2 ^ s → k % 2 ^ s ≡ k - row * 2 ^ s
      at k low high =
          let place : row * 2 ^ s + (k - row * 2 ^ s) ≡ k = omega arith in
          subst (λ x. x % 2 ^ s ≡ k - row * 2 ^ s) place (mod-mul-add row (2 ^ s) (k - row * 2 ^ s) (omega arith))

-- ---- words that are other ids in their rows

-- a table is still one where each of its words stays or is an entry that is another row's id
pub shaped_by : (l : Layout) (word : ℕ → ℕ)
    → ((k : ℕ) → k < length l.words
    → (word k ≡ slice_index l.words k) ⊎ ((k % stride l < alphabet_len l.classes) × IsRowId l (word k)))
    → IsShaped l → IsShaped (record l { words = map word (range_with_len 0 (length l.words)) })
shaped_by l word each h =
    shaped_words l ws (length-map-range_with_len word 0 (length l.words))
    (λ k b.
    subst (IsRowId l) (sym (at k b))
    (⊎_elim (λ stays. subst (IsRowId l) (sym stays) (h.rows.next_ids k b)) (λ other. other.1) (each k b)))
    (λ k b past.
    at k b
    ∙ ⊎_elim (λ stays. stays ∙ h.rows.past_alphabet k b past) (λ other. absurd (omega arith))
    (each k b))
    h
  where
    ws : List ℕ
    ws = map word (range_with_len 0 (length l.words))

    at : (k : ℕ) → k < length l.words
        → slice_index (map word (range_with_len 0 (length l.words))) k ≡ word k
    at k b = get_or-map-range_with_len word 0 (length l.words) k k 0 b (omega arith)

-- rows keep their ids
pub same_ids : (l : Layout) (word : ℕ → ℕ)
    → ids_of (record l { words = map word (range_with_len 0 (length l.words)) }) ≡ ids_of l
same_ids l word = grind (arith, common_steps, length-map-range_with_len)

-- A list has an id for each row.
module _ (l : Layout) (ids : List ℕ) (count : length ids ≡ row_count l) (are : All (IsId (ids_of l)) ids)
    (h : IsShaped l) where
  row_within : (id : ℕ) → IsRowId l id → id / stride l < length ids
  row_within id is = omega (arith, row-below l id is)

  renamed_id_is : (id : ℕ) → IsRowId l id → IsRowId l (renamed_id l ids id)
  renamed_id_is id is = IsRowId-id l _ (All-get_or (IsId (ids_of l)) ids (id / stride l) 0 (row_within id is) are)

  pub words_within : All (λ id. id / stride l < length ids) l.words
  words_within =
      All-from_get_or (λ id. id / stride l < length ids) l.words 0 (λ k b. row_within _ (h.rows.next_ids k b))

  pub starts_within : All (λ id. id / stride l < length ids) l.starts
  starts_within =
      All-from_get_or (λ id. id / stride l < length ids) l.starts 0 (λ k b. row_within _ (h.starts.start_ids k b))

  renamed_word_is : (k : ℕ) → k < length l.words
      → (renamed_word l ids k ≡ slice_index l.words k)
      ⊎ ((k % stride l < alphabet_len l.classes) × IsRowId l (renamed_word l ids k))
  renamed_word_is k b =
      ⊎_elim
      (λ (entry : k % stride l < alphabet_len l.classes).
      inr (entry, rw (lt-ltb _ _ entry) (renamed_id_is _ (h.rows.next_ids k b))))
      (λ (past : alphabet_len l.classes ≤ k % stride l). inl (rw (le-ltb _ _ past)))
      (cases_lt (k % stride l) (alphabet_len l.classes))

  pub shaped_renamed : IsShaped (renamed l ids)
  shaped_renamed =
      let m : Layout = record l { words = map (renamed_word l ids) (range_with_len 0 (length l.words)) } in
      let same : length l.words ≤ length m.words =
      omega (arith, length-map-range_with_len (renamed_word l ids) 0 (length l.words)) in
      shaped_starts m (map (renamed_id l ids) l.starts) (length-map l.starts (renamed_id l ids))
      (λ k b.
      subst (IsRowId m) (sym (get_or-map (renamed_id l ids) l.starts k 0 0 b))
      (id_kept l m _ refl same (renamed_id_is _ (h.starts.start_ids k b))))
      (shaped_by l (renamed_word l ids) renamed_word_is h)

  pub shaped_renamed_row : (id : ℕ) → IsShaped (with_renamed_row l id ids)
  shaped_renamed_row id =
      shaped_by l (word id) (λ k b. chosen k b (k / stride l == id / stride l)) h
    where
      word : ℕ → ℕ → ℕ
      word id k = if k / stride l == id / stride l then renamed_word l ids k else slice_index l.words k

      chosen : (k : ℕ) → k < length l.words → (own : Bool)
          → ((if own then renamed_word l ids k else slice_index l.words k) ≡ slice_index l.words k)
          ⊎ ((k % stride l < alphabet_len l.classes)
          × IsRowId l (if own then renamed_word l ids k else slice_index l.words k))
      chosen k b true = renamed_word_is k b
      chosen k b false = inl refl

  -- what the renamed table leads to
  pub machine_renamed : IsMachineRenamed l (renamed l ids) ids
  machine_renamed = record {
    rows = same_ids l (renamed_word l ids);
    nexts = λ row unit b within.
        let is = IsRowId-row l row b in
        let low = column_within l h.rows.classes unit within in
        let place : row * stride l + column l unit < length l.words = omega arith in
        let column_is : (row * stride l + column l unit) % stride l ≡ column l unit =
        mod-mul-add row (stride l) (column l unit) (omega arith) in
        ap (λ id. id / stride l)
        (get_or-map-range_with_len (renamed_word l ids) 0 (length l.words) (row * stride l + column l unit)
        (row * stride l + column l unit) 0 place (omega arith)
        ∙ rw (column_is, lt-ltb _ _ low) refl);
    entries = λ mode start has.
        let there : mode_place mode < length (map (renamed_id l ids) l.starts) =
        omega (arith, length-map l.starts (renamed_id l ids)) in
        rw (lt-ltb _ _ has, lt-ltb _ _ there)
        (ap
        (λ id. id / stride l)
        (get_or-map (renamed_id l ids) l.starts _ 0 0 (start_within l h.starts mode start has)));
  }

-- ---- what the calls make of the words

pub words_renamed : (l : Layout) (ids ws : List ℕ) → length ws ≡ length l.words
    → ((k : ℕ) → k < length l.words → k % stride l < alphabet_len l.classes
    → slice_index ws k ≡ renamed_id l ids (slice_index l.words k))
    → ((k : ℕ) → k < length l.words → alphabet_len l.classes ≤ k % stride l
    → slice_index ws k ≡ slice_index l.words k)
    → ws ≡ map (renamed_word l ids) (range_with_len 0 (length l.words))
words_renamed l ids ws count entries others =
    fill_by_all (renamed_word l ids) ws (length l.words) 0 count (λ k b.
    ⊎_elim
    (λ (entry : k % stride l < alphabet_len l.classes). rw (lt-ltb _ _ entry) (entries k b entry))
    (λ (past : alphabet_len l.classes ≤ k % stride l). rw (le-ltb _ _ past) (others k b past))
    (cases_lt (k % stride l) (alphabet_len l.classes)))

module _ (l : Layout) (ids part : List ℕ) (id : ℕ) (is : IsRowId l id) (fits : alphabet_len l.classes ≤ stride l)
    (renamed : RenamedPart (renamed_id l ids) l.words part id (alphabet_len l.classes)) where
  pub row_renamed : put_mid id (alphabet_len l.classes) l.words part ≡ (with_renamed_row l id ids).words
  row_renamed =
      fill_by_all (word (id / stride l)) (put_mid id (alphabet_len l.classes) l.words part) (length l.words) 0
      (length-part (renamed_part renamed))
      (λ k b.
      ⊎_elim
      (λ (own : k / stride l ≡ id / stride l).
      let at : k ≡ id + k % stride l = grind (arith, common_steps) in
      rw (eq-eqb _ _ own)
      (⊎_elim
      (λ (entry : k % stride l < alphabet_len l.classes).
      rw (lt-ltb _ _ entry) (renamed_inside renamed k (omega arith) (omega arith)))
      (λ (past : alphabet_len l.classes ≤ k % stride l). rw (le-ltb _ _ past) (outside k (inr (omega arith))))
      (cases_lt (k % stride l) (alphabet_len l.classes))))
      (λ (other : k / stride l ≡ id / stride l → ⊥). rw (ne_eqb _ _ other) (outside k (elsewhere k other)))
      (cases_eq (k / stride l) (id / stride l)))
    where
      word : ℕ → ℕ → ℕ
      word row k = if k / stride l == row then renamed_word l ids k else slice_index l.words k

      outside : (k : ℕ) → IsOutside id (alphabet_len l.classes) k
          → slice_index (put_mid id (alphabet_len l.classes) l.words part) k ≡ slice_index l.words k
      outside = part_outside (renamed_part renamed)

      elsewhere : (k : ℕ) → (k / stride l ≡ id / stride l → ⊥) → IsOutside id (alphabet_len l.classes) k
      elsewhere k other =
          ⊎_elim
          (λ (before : k < id). inl before)
          (λ (from : id ≤ k).
          ⊎_elim
          (λ (within : k < id + alphabet_len l.classes).
          let at : id / stride l * stride l + (k - id) ≡ k = omega arith in
          let row = div-mul-add (id / stride l) (stride l) (k - id) (omega arith) in
          absurd (other (subst (λ x. x / stride l ≡ id / stride l) at row)))
          (λ (behind : id + alphabet_len l.classes ≤ k). inr behind)
          (cases_lt k (id + alphabet_len l.classes)))
          (cases_lt k id)

pub same_lists : {k l : Layout} {ws vs starts others : List ℕ} → k ≡ l → ws ≡ vs → starts ≡ others
    → record k { words = ws; starts = starts } ≡ record l { words = vs; starts = others }
same_lists {k} {l} {ws} {vs} {starts} {others} same words entries = grind (arith, common_steps)

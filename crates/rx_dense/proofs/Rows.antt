-- Rows and their ids: the id of a row is its number times the stride.
use Rattle.rx_spec.proofs.Prelude.{common_steps, rules, ◌≡◌, ℕ, zero, suc, ◌+◌, ◌-◌, ◌*◌, ◌/◌, ◌%◌, ◌^◌, ◌<◌, ◌≤◌, ◌==◌}
use Rattle.rx_spec.proofs.Prelude.{Option, true, List, take, drop, length, ap, sym, ◌∙◌, subst, ⊎_elim, arith}
use Rattle.rx_spec.proofs.Prelude.{slice_index, length-take, length-drop, nat_lt, mul-div_cancel, pow-le-pow_right}
use Rattle.rx_spec.proofs.Prelude.{and_parts, eqb-true, lt-ltb, ltb-true, cases_lt, cases_eq, one_shl, pow_pos}
use Rattle.rx_spec.proofs.Prelude.{mod-mul-add, mul-le, row_fits, id_of, row_of, Anchored, max_id}
use Rattle.std.proofs.Math.Nat.{le-mul_of_pos_right}
use Rattle.std.proofs.lemmas.List.Sums.{passes_at_first}
use Rattle.rx_lemmas.proofs.Ids.{row_of-id_of, id_of-dense, dense_are_ids}
use Rattle.rx_search.specs.Starts.{IsId}
use Rattle.rx_dense.specs.Layouts.{Layout, IsRowId, AreRows, AreStarts, stride, row_count, ids_of, is_row_id, column}
use Rattle.rx_dense.specs.Layouts.{context_number, mode_place, start_entries}
use Rattle.rx_spec.specs.declared.Start.{Start}
use Rattle.rx_base.specs.ByteClasses.{AreClasses, alphabet_len}

-- ---- numbers

pub quotient : (x s : ℕ) → x % s ≡ 0 → x / s * s ≡ x
quotient x s h = omega arith

pub no_more : (x : ℕ) → x + 0 ≡ x
no_more x = omega arith

quotient_below : (x s n : ℕ) → 0 < s → x % s ≡ 0 → x + s ≤ n → x / s < n / s
quotient_below x s n some h below = grind (arith, common_steps)

pub multiple_below : (row s n : ℕ) → 0 < s → row < n / s → row * s + s ≤ n
multiple_below row s n some h = grind (arith, common_steps)

-- a multiple of s below another is below it by s
pub multiple_within : (x s n : ℕ) → x % s ≡ 0 → n % s ≡ 0 → x < n → x + s ≤ n
multiple_within x s n h k below =
    ⊎_elim
    (λ (less : x / s < n / s). omega (arith, row_fits (x / s) s (n / s) s less (omega arith)))
    (λ (more : n / s ≤ x / s).
    absurd (omega (arith, quotient x s h, quotient n s k, mul-le (n / s) s (x / s) s more (omega arith))))
    (cases_lt (x / s) (n / s))

-- a part of a list, from a place up to another
pub part_is : (xs : List ℕ) (start len : ℕ) → take (start + len - start) (drop start xs) ≡ take len (drop start xs)
part_is xs start len = grind (arith, common_steps)

-- ---- strides

pub stride_shifted : (s : ℕ) → s ≤ 9 → 1 * 2 ^ s % 18446744073709551616 ≡ 2 ^ s
stride_shifted s h = one_shl s 64 (omega arith)

pub stride_few : (s : ℕ) → s ≤ 9 → 2 ^ s ≤ 512
stride_few s h = pow-le-pow_right (let some : 0 < 2 = omega arith in some) h

-- ---- the row of an id

-- a number that is an id stands at its row
pub id_at_row : (ids : List ℕ) (id : ℕ) → IsId ids id → id_of ids (row_of ids id) ≡ id
id_at_row ids id is = grind (arith, common_steps, lt-ltb, passes_at_first)

-- ---- in a dense table

module _ (l : Layout) where
  some : 0 < stride l
  some = pow_pos l.stride2

  -- the id of a row is the place of its first word
  pub IsRowId-row : (row : ℕ) → row < row_count l → IsRowId l (row * stride l)
  IsRowId-row row h = record {
    whole = subst (λ x. x % stride l ≡ 0) (no_more (row * stride l)) (mod-mul-add row (stride l) 0 some);
    below = multiple_below row (stride l) (length l.words) some h;
  }

  pub row-below : (id : ℕ) → IsRowId l id → id / stride l < row_count l
  row-below id is = quotient_below id (stride l) (length l.words) some is.whole is.below

  pub row_of-id : (id : ℕ) → IsRowId l id → row_of (ids_of l) id ≡ id / stride l
  row_of-id id is =
      let row = id / stride l in
      let there : id_of (ids_of l) row ≡ id =
      id_of-dense (row_count l) l.stride2 row (row-below id is) ∙ quotient id (stride l) is.whole in
      ap (row_of (ids_of l)) (sym there) ∙ row_of-id_of (dense_are_ids (row_count l) l.stride2) row (row-below id is)

  pub row_of-row : (row : ℕ) → row < row_count l → row_of (ids_of l) (row * stride l) ≡ row
  row_of-row row h = row_of-id (row * stride l) (IsRowId-row row h) ∙ mul-div_cancel row some

  count : length (ids_of l) ≡ row_count l
  count = (dense_are_ids (row_count l) l.stride2).count

  pub IsId-row_id : (id : ℕ) → IsRowId l id → IsId (ids_of l) id
  IsId-row_id id is = omega (arith, count, row_of-id id is, row-below id is)

  pub row-is_below : (id : ℕ) → IsId (ids_of l) id → row_of (ids_of l) id < row_count l
  row-is_below id is = omega (arith, count)

  pub id-times : (id : ℕ) → IsId (ids_of l) id → row_of (ids_of l) id * stride l ≡ id
  id-times id is =
      let below : row_of (ids_of l) id < row_count l = omega (arith, count) in
      sym (id_of-dense (row_count l) l.stride2 (row_of (ids_of l) id) below) ∙ id_at_row (ids_of l) id is

  pub IsRowId-id : (id : ℕ) → IsId (ids_of l) id → IsRowId l id
  IsRowId-id id is = subst (IsRowId l) (id-times id is) (IsRowId-row (row_of (ids_of l) id) (omega (arith, count)))

-- ---- entries

module _ (l : Layout) (rows : AreRows l) where
  pub id_few : (id : ℕ) → IsRowId l id → id ≤ max_id
  id_few id is = (let few = rows.few in let below = is.below in omega arith)

  pub valid_id : (id : ℕ) → is_row_id l id ≡ true → IsRowId l id
  valid_id id e =
      let parts = and_parts (id % stride l == 0) (nat_lt id (length l.words)) e in
      let whole = eqb-true _ _ parts.0 in
      record {
        whole = whole;
        below = multiple_within id (stride l) (length l.words) whole rows.whole (ltb-true _ _ parts.1);
      }

  -- an entry of a row lies in the table, and leads to a row
  pub entry_within : (id at : ℕ) → IsId (ids_of l) id → at < alphabet_len l.classes → id + at < length l.words
  entry_within id at is h = omega (arith, rows.fits, (IsRowId-id l id is).below)

  pub entry_id : (id at : ℕ) → IsId (ids_of l) id → at < alphabet_len l.classes
      → IsId (ids_of l) (slice_index l.words (id + at))
  entry_id id at is h = IsId-row_id l _ (rows.next_ids (id + at) (entry_within id at is h))

  pub entry_few : (id at : ℕ) → IsId (ids_of l) id → at < alphabet_len l.classes
      → slice_index l.words (id + at) ≤ max_id
  entry_few id at is h = id_few _ (rows.next_ids (id + at) (entry_within id at is h))

  pub entry_row : (id at : ℕ) → IsId (ids_of l) id → at < alphabet_len l.classes
      → row_of (ids_of l) (slice_index l.words (id + at))
      ≡ slice_index l.words (row_of (ids_of l) id * stride l + at) / stride l
  entry_row id at is h =
      row_of-id l _ (rows.next_ids (id + at) (entry_within id at is h))
      ∙ ap (λ x. slice_index l.words (x + at) / stride l) (sym (id-times l id is))

-- a row's number is at most the greatest id
pub number_few : (l : Layout) → AreRows l → (row : ℕ) → row < row_count l → row ≤ max_id
number_few l are row h = search (rules, id_few, IsRowId-row, le-mul_of_pos_right, pow_pos)

-- ---- the words from a column on

module _ (words : List ℕ) (column id : ℕ) (h : id + column < length words) where
  pub from_column_has : id < length (take (length words - column) (drop column words))
  from_column_has = omega (arith, length-take (length words - column) (drop column words), length-drop column words)

  pub from_column_is : slice_index (take (length words - column) (drop column words)) id
      ≡ slice_index words (id + column)
  from_column_is = grind (arith, common_steps)

-- ---- columns

-- a byte's class is a column before the last
module _ (classes : List ℕ) (are : AreClasses classes) where
  pub class_below : (n b : ℕ) → b ≤ n → n < 256 → slice_index classes b ≤ slice_index classes n
  class_below zero b h k = grind (arith, common_steps)
  class_below (suc n) b h k =
      ⊎_elim
      (λ (e : b ≡ suc n). subst (λ x. slice_index classes x ≤ slice_index classes (suc n)) (sym e) (omega arith))
      (λ (ne : b ≡ suc n → ⊥).
      let up : slice_index classes n ≤ slice_index classes (suc n) =
      subst (λ x. slice_index classes n ≤ slice_index classes x) (omega arith) (are.rises n (omega arith)) in
      omega (arith, class_below n b (omega arith) (omega arith)))
      (cases_eq b (suc n))

  pub class_column : (b : ℕ) → b < 256 → slice_index classes b < alphabet_len classes
  class_column b h = omega (arith, class_below 255 b (omega arith) (omega arith))

  -- there are no more classes than bytes
  class_upto : (b : ℕ) → b < 256 → slice_index classes b ≤ b
  class_upto zero h = omega arith
  class_upto (suc b) h =
      let up : slice_index classes (suc b) ≤ slice_index classes b + 1 =
      subst (λ x. slice_index classes x ≤ slice_index classes b + 1) (omega arith) (are.by_one b (omega arith)) in
      omega (arith, class_upto b (omega arith))

  pub alphabet_few : alphabet_len classes ≤ 257
  alphabet_few = omega (arith, class_upto 255 (omega arith))

-- so is that of the end mark within the alphabet
pub column_within : (l : Layout) → AreClasses l.classes → (unit : ℕ) → unit < 257
    → column l unit < alphabet_len l.classes
column_within l are unit h = grind (arith, common_steps, class_column)

-- ---- start entries

pub place_within : (mode : Anchored) (start : Start) (pattern_starts : Option ℕ)
    → mode_place mode < start_entries pattern_starts
    → mode_place mode + context_number start < start_entries pattern_starts
place_within mode start pattern_starts h = grind (arith, common_steps)

pub start_within : (l : Layout) → AreStarts l → (mode : Anchored) (start : Start) → mode_place mode < length l.starts
    → mode_place mode + context_number start < length l.starts
start_within l starts mode start h = grind (arith, common_steps)

pub start_is_row : (l : Layout) → AreStarts l → (mode : Anchored) (start : Start) → mode_place mode < length l.starts
    → IsRowId l (slice_index l.starts (mode_place mode + context_number start))
start_is_row l starts mode start h = starts.start_ids _ (start_within l starts mode start h)

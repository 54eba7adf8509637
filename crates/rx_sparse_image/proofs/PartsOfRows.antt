-- The row that its parts make, and what is read out of them.
use Rattle.rx_spec.proofs.Prelude.{common_steps, [], ◌≡◌, ℕ, ◌+◌, ◌-◌, ◌*◌, ◌/◌, ◌<◌, ◌≤◌, Bool, List, ◌∷◌, ◌++◌}
use Rattle.rx_spec.proofs.Prelude.{length, map, nat_le, ap, sym, ◌∙◌, arith, list_all, range_with_len, append-nil}
use Rattle.rx_spec.proofs.Prelude.{list_all-map, map-range_with_len_more, map-map}
use Rattle.rx_wire.specs.declared.order.Order.{Order}
use Rattle.rx_wire.proofs.Words.{length-words}
use Rattle.rx_sparse.specs.declared.ranges.ClassRange.{ClassRange}
use Rattle.rx_sparse.specs.Parts.{FitsBytes}
use Rattle.rx_sparse.specs.Rows.{Row, ends_in, ends_text, head_number, is_some_list, next_ids, next_ids_in}
use Rattle.rx_sparse.specs.Rows.{patterns_text, range_in, rest_in, row_of_parts, row_text, word_at, words_text}
use Rattle.rx_sparse.proofs.RowTexts.{ends_is, ids_is, length-ends, matches_is, rest_is, row_again}
use Rattle.rx_sparse_image.specs.declared.row_parts.RowParts.{RowParts}
use Rattle.rx_sparse_image.specs.Reading.{AreParts, row_of}

-- ---- parts that are the text of a row

-- the texts of a row's parts make the row
made : (order : Order) (row : Row) → FitsBytes row
    → row_of_parts order (is_some_list row.patterns) (ends_text row.ranges) (words_text order (next_ids row))
    (patterns_text order row.patterns ++ (length row.needles ∷ row.needles))
    ≡ row
made order row fits =
    let text : List ℕ = row_text order row ++ [] in
    let some : Bool = is_some_list row.patterns in
    let behind = rest_is order row [] fits
    ∙ ap (λ t. patterns_text order row.patterns ++ t) (append-nil (length row.needles ∷ row.needles)) in
    sym (
    ap (λ m. row_of_parts order m (ends_in order text) (next_ids_in order text) (rest_in order text))
    (matches_is order row [] fits)
    ∙ ap (λ e. row_of_parts order some e (next_ids_in order text) (rest_in order text)) (ends_is order row [] fits)
    ∙ ap (λ i. row_of_parts order some (ends_text row.ranges) i (rest_in order text)) (ids_is order row [] fits)
    ∙ ap (λ r. row_of_parts order some (ends_text row.ranges) (words_text order (next_ids row)) r) behind
    )
    ∙ row_again order row [] fits

-- what a split answers is a row and its parts
pub record ArePieces (order : Order) (row : Row) (p : RowParts) : Type 0 where
  pub fits : FitsBytes row
  pub head : p.head ≡ head_number row
  pub ends : p.ends.now ≡ ends_text row.ranges
  pub next_ids : p.next_ids.now ≡ words_text order (next_ids row)
  pub patterns : p.patterns.now ≡ patterns_text order row.patterns
  pub needles : p.needles.now ≡ length row.needles ∷ row.needles

module _ {order : Order} {row : Row} {p : RowParts} (are : ArePieces order row p) where
  is_match : nat_le 32768 p.head ≡ is_some_list row.patterns
  is_match = grind (arith, common_steps)

  behind : p.patterns.now ++ p.needles.now
      ≡ patterns_text order row.patterns ++ (length row.needles ∷ row.needles)
  behind = grind (arith, common_steps)

  -- the parts make that row
  pub row_is : row_of order p ≡ row
  row_is = grind (arith, common_steps, is_match, made)

  -- and they are whole
  pub are_parts : AreParts order p
  are_parts = grind (arith, common_steps, row_is)

-- ---- what is read out of whole parts

module _ {order : Order} {p : RowParts} (are : AreParts order p) where
  abbrev row : Row
  row = row_of order p

  pub ids_len : length p.next_ids.now ≡ 2 * length p.ends.now
  ids_len = grind (arith, common_steps, ap length are.ends ∙ length-ends row.ranges, length-words)

  pub ends_some : 2 ≤ length p.ends.now
  ends_some = omega (arith, ap length are.ends ∙ length-ends row.ranges)

  -- the id at a place is there
  pub id_within : (i : ℕ) → i < length p.ends.now / 2 → 4 * i + 4 ≤ length p.next_ids.now
  id_within i h = omega (arith, ids_len)

  -- the ids of the ranges and of the end mark are the words, one behind another
  next_ids_are : next_ids (row_of order p)
      ≡ map (word_at order p.next_ids.now) (range_with_len 0 (length p.ends.now / 2))
  next_ids_are =
      let ids : List ℕ = p.next_ids.now in
      let n : ℕ = length p.ends.now / 2 - 1 in
      let count : n + 1 ≡ length p.ends.now / 2 = omega (arith, ap length are.ends ∙ length-ends row.ranges) in
      ap (λ t. t ++ word_at order ids n ∷ [])
      (map-map (λ (range : ClassRange). range.next) (range_in order p.ends.now ids) (range_with_len 0 n))
      ∙ sym (map-range_with_len_more (word_at order ids) 0 n n (omega arith))
      ∙ ap (λ k. map (word_at order ids) (range_with_len 0 k)) count

  -- a test of all of them is a test of each word
  pub all_next : (test : ℕ → Bool)
      → list_all test (next_ids (row_of order p))
      ≡ list_all (λ i. test (word_at order p.next_ids.now i)) (range_with_len 0 (length p.ends.now / 2))
  all_next test = grind (arith, common_steps, next_ids_are, list_all-map)

-- Match rows that keep their places keep their lists of patterns.
use Rattle.rx_spec.proofs.Prelude.{◌≡◌, ℕ, ◌+◌, ◌-◌, ◌*◌, ◌/◌, ◌<◌, ◌≤◌, ◌==◌, ◌&&◌, inl, inr, Bool, true, List, []}
use Rattle.rx_spec.proofs.Prelude.{if◌then◌else◌, map, length, slice_index, nat_le, nat_lt, not, refl, ap, ap₂, sym}
use Rattle.rx_spec.proofs.Prelude.{◌∙◌, subst, ⊎_elim, arith, concat, position_or_len, range_with_len, and_parts}
use Rattle.rx_spec.proofs.Prelude.{cases_lt, eq-eqb, false≢true, leb-true, ltb-true, ne_eqb, fill_by_all}
use Rattle.rx_spec.proofs.Prelude.{get_or-map-range_with_len, length-map-range_with_len, mul-le, pow_pos, row_fits}
use Rattle.rx_spec.proofs.Prelude.{max_id, Label, is_match}
use Rattle.rx_order.proofs.Prelude.{AreJoined, AreSkippable, IsInOrder, IsRange, Layout, are_needles, is_in_range}
use Rattle.rx_order.proofs.Prelude.{is_match_id, is_quit_id, is_start_row, label_patterns, leaving_of, lists_in}
use Rattle.rx_order.proofs.Prelude.{match_count, match_lists, patterns_at, patterns_of, place_in_range, quotient}
use Rattle.rx_order.proofs.Prelude.{row-below, row_count, slices_from, stride, table_of, with_patterns}
use Rattle.rx_dense.specs.Layouts.{IsRowId}
use Rattle.rx_order.proofs.ExchangedRows.{row_at_place}
use Rattle.rx_order.proofs.KindNumbers.{at_most, high_kind, high_matches, kind_high, none_in_range}
use Rattle.rx_order.proofs.KindRanges.{match_by_id}
use Rattle.rx_order.proofs.MatchRows.{place_from}
use Rattle.rx_order.proofs.Sorted.{matching, permutation}

module _ {l : Layout} {rows ends : List ℕ} (s : AreSkippable l rows ends)
    (kept : (place : ℕ) → slice_index ends 1 ≤ place → place < slice_index ends 3 → slice_index rows place ≡ place)
  where
    some : 0 < stride l
    some = pow_pos l.stride2

    -- the rows at the places of match rows are these
    own_match : (place : ℕ) → slice_index ends 1 ≤ place → place < slice_index ends 3
        → is_match_id l.special (place * stride l) ≡ true
    own_match place low high =
        sym (match_by_id l place)
        ∙ subst (λ row. is_match (table_of l) row ≡ true) (kept place low high) (matching s place low high)

    -- and no others match
    match_there : (row : ℕ) → row < row_count l → 1 < row → is_match_id l.special (row * stride l) ≡ true
        → (slice_index ends 1 ≤ row) × (row < slice_index ends 3)
    match_there row below high e =
        let at = row_at_place (permutation s) row below in
        let place : ℕ = position_or_len (λ other. other == row) rows in
        let is : slice_index s.kinds row
        ≡ high_kind (is_match (table_of l) row) (are_needles (leaving_of (table_of l) row)) (is_start_row l row) =
        s.kinds_are.kinds_are row below
        ∙ kind_high row (is_match (table_of l) row) (are_needles (leaving_of (table_of l) row)) (is_start_row l row)
        high in
        let kinds = and_parts (nat_lt 1 (slice_index s.kinds row)) (nat_le (slice_index s.kinds row) 3)
        (ap (λ k. nat_lt 1 k && nat_le k 3) is
        ∙ high_matches (is_match (table_of l) row) (are_needles (leaving_of (table_of l) row)) (is_start_row l row)
        ∙ match_by_id l row ∙ e) in
        let low = ltb-true 1 (slice_index s.kinds row) kinds.0 in
        let upto = leb-true (slice_index s.kinds row) 3 kinds.1 in
        let there : slice_index s.kinds (slice_index rows place) ≡ slice_index s.kinds row =
        ap (slice_index s.kinds) at.1 in
        let from : slice_index ends 1 ≤ place =
        ⊎_elim
        (λ (h : place < slice_index ends 1).
        absurd (omega (arith, (s.by_kind.before place 1 (omega arith) h).1, there, low)))
        (λ (h : slice_index ends 1 ≤ place). h)
        (cases_lt place (slice_index ends 1)) in
        let within : place < slice_index ends 3 =
        ⊎_elim
        (λ (h : place < slice_index ends 3). h)
        (λ (h : slice_index ends 3 ≤ place).
        absurd (omega (
          arith,
          s.by_kind.behind place 3 (omega (arith, at.0, s.kinds_are.count)) (omega arith) h,
          there,
          upto,
        )))
        (cases_lt place (slice_index ends 3)) in
        let same : row ≡ place = sym at.1 ∙ kept place from within in
        (omega (arith, same, from), omega (arith, same, within))

    rises : (a b : ℕ) → a * stride l ≤ b * stride l → a ≤ b
    rises a b h =
        ⊎_elim
        (λ (less : b < a). absurd (omega (arith, row_fits b (stride l) a (stride l) less (omega arith), h, some)))
        (λ (upto : a ≤ b). upto)
        (cases_lt b a)

    -- ---- where the table has match rows

    module _ (past : stride l < l.special.min_match) (le : l.special.min_match ≤ l.special.max_match)
        (is_first : IsRowId l l.special.min_match) (is_last : IsRowId l l.special.max_match) where
      abbrev low_row : ℕ
      low_row = l.special.min_match / stride l

      abbrev high_row : ℕ
      high_row = l.special.max_match / stride l

      first_is : low_row * stride l ≡ l.special.min_match
      first_is = quotient l.special.min_match (stride l) is_first.whole

      last_is : high_row * stride l ≡ l.special.max_match
      last_is = quotient l.special.max_match (stride l) is_last.whole

      up : low_row ≤ high_row
      up = rises low_row high_row (omega (arith, first_is, last_is, le))

      in_match : (row : ℕ) → low_row ≤ row → row ≤ high_row → is_match_id l.special (row * stride l) ≡ true
      in_match row low high =
          let from = mul-le low_row (stride l) row (stride l) low (omega arith) in
          let upto = mul-le row (stride l) high_row (stride l) high (omega arith) in
          let other : row * stride l ≡ 0 → ⊥ = λ e. absurd (omega (arith, e, from, first_is, past)) in
          rw (
            at_most l.special.min_match (row * stride l) (omega (arith, from, first_is)),
            at_most (row * stride l) l.special.max_match (omega (arith, upto, last_is)),
            ne_eqb (row * stride l) 0 other,
          )
          refl

      behind_quit : (row : ℕ) → low_row ≤ row → 1 < row
      behind_quit row low =
          ⊎_elim
          (λ (h : 1 < row). h)
          (λ (h : row ≤ 1).
          absurd (omega (
            arith,
            mul-le low_row (stride l) 1 (stride l) (omega arith) (omega arith),
            first_is,
            past,
          )))
          (cases_lt 1 row)

      at_first : (slice_index ends 1 ≤ low_row) × (low_row < slice_index ends 3)
      at_first =
          match_there low_row (row-below l l.special.min_match is_first) (behind_quit low_row (omega arith))
          (in_match low_row (omega arith) up)

      at_last : (slice_index ends 1 ≤ high_row) × (high_row < slice_index ends 3)
      at_last =
          match_there high_row (row-below l l.special.max_match is_last) (behind_quit high_row up)
          (in_match high_row up (omega arith))

      in_range : (place : ℕ) → slice_index ends 1 ≤ place → place < slice_index ends 3
          → (low_row ≤ place) × (place ≤ high_row)
      in_range place low high =
          let id : ℕ = place * stride l in
          let parts = and_parts (nat_le l.special.min_match id && nat_le id l.special.max_match) (not (id == 0))
          (own_match place low high) in
          let ends = and_parts (nat_le l.special.min_match id) (nat_le id l.special.max_match) parts.0 in
          let from = leb-true l.special.min_match id ends.0 in
          let upto = leb-true id l.special.max_match ends.1 in
          (rises low_row place (omega (arith, from, first_is)), rises place high_row (omega (arith, upto, last_is)))

      first_same : slice_index ends 1 ≡ low_row
      first_same =
          let some = in_range (slice_index ends 1) (omega arith) (omega (arith, at_first)) in
          omega (arith, some, at_first)

      behind_same : slice_index ends 3 ≡ high_row + 1
      behind_same =
          let some = in_range (slice_index ends 3 - 1) (omega (arith, at_last)) (omega (arith, at_last)) in
          omega (arith, some, at_last)

      count : match_count l ≡ slice_index ends 3 - slice_index ends 1
      count =
          ap (λ b. if b then 0 else place_in_range l l.special.min_match l.special.max_match + 1)
          (ne_eqb l.special.min_match 0 (λ e. absurd (omega (arith, e, past))))
          ∙ ap (λ (n : ℕ). n + 1)
          (ap₂ (λ (x y : ℕ). (x - y) / stride l) (sym last_is) (sym first_is)
          ∙ place_from low_row high_row (stride l) some up)
          ∙ omega (arith, first_same, behind_same, up)

      told : (k : ℕ) → k < match_count l
          → patterns_of (table_of l) (slice_index rows (slice_index ends 1 + k)) ≡ patterns_at l k
      told k h =
          let place : ℕ = slice_index ends 1 + k in
          let within : place < slice_index ends 3 = omega (arith, h, count) in
          let id : ℕ = place * stride l in
          let from_first : low_row ≤ place = omega (arith, first_same) in
          let own : place_in_range l l.special.min_match (place * stride l) ≡ k =
          ap (λ (n : ℕ). (place * stride l - n) / stride l) (sym first_is)
          ∙ place_from low_row place (stride l) some from_first
          ∙ omega (arith, first_same) in
          ap (patterns_of (table_of l)) (kept place (omega arith) within)
          ∙ ap (λ (m : Bool). label_patterns (if m
          then Label.Matches (patterns_at l (place_in_range l l.special.min_match (place * stride l)))
          else (if is_quit_id l.special (place * stride l) then Label.Quits else Label.Plain)))
          (own_match place (omega arith) within)
          ∙ ap (patterns_at l) own

      lists_there : lists_in l rows ends ≡ match_lists l
      lists_there =
          fill_by_all (patterns_at l) (lists_in l rows ends) (match_count l) []
          (length-map-range_with_len (λ place. patterns_of (table_of l) (slice_index rows place)) (slice_index ends 1)
          (slice_index ends 3 - slice_index ends 1) ∙ sym count)
          (λ k h.
          get_or-map-range_with_len (λ place. patterns_of (table_of l) (slice_index rows place)) (slice_index ends 1)
          (slice_index ends 3 - slice_index ends 1) k (slice_index ends 1 + k) [] (omega (arith, h, count)) refl
          ∙ told k h)

    lists_are : IsRange l l.special.min_match l.special.max_match → lists_in l rows ends ≡ match_lists l
    lists_are (inl (none, last_none)) =
        let empty : slice_index ends 3 - slice_index ends 1 ≡ 0 =
        ⊎_elim
        (λ (h : slice_index ends 1 < slice_index ends 3).
        absurd (false≢true
        (sym (none_in_range (slice_index ends 1 * stride l))
        ∙ sym (ap₂ (λ (a b : ℕ). is_in_range a b (slice_index ends 1 * stride l)) none last_none)
        ∙ own_match (slice_index ends 1) (omega arith) h)))
        (λ (h : slice_index ends 3 ≤ slice_index ends 1). omega arith)
        (cases_lt (slice_index ends 1) (slice_index ends 3)) in
        let count : match_count l ≡ 0 =
        ap (λ b. if b then 0 else place_in_range l l.special.min_match l.special.max_match + 1)
        (eq-eqb l.special.min_match 0 none) in
        ap (λ n. map (λ place. patterns_of (table_of l) (slice_index rows place))
        (range_with_len (slice_index ends 1) n)) empty
        ∙ sym (ap (λ n. map (patterns_at l) (range_with_len 0 n)) count)
    lists_are (inr (past, le, is_first, is_last)) = lists_there past le is_first is_last

    pub lists_kept : IsInOrder l → AreJoined l → l ≡ with_patterns l (lists_in l rows ends)
    lists_kept in_order joined =
        let lists = sym (lists_are in_order.ordered.matches) in
        ap₂ (λ (slices ids : List ℕ). record l { slices = slices; pattern_ids = ids })
        (joined.slices ∙ ap (slices_from 0) lists) (joined.pattern_ids ∙ ap concat lists)

    pub lists_few : IsInOrder l → length (concat (lists_in l rows ends)) ≤ max_id
    lists_few in_order =
        subst (λ (lists : List (List ℕ)). length (concat lists) ≤ max_id) (sym (lists_are in_order.ordered.matches))
        in_order.few

-- Rows in order, by whose kinds it is known which match and from which a search may skip.
use Rattle.rx_spec.proofs.Prelude.{common_steps, ◌≡◌, ℕ, ◌*◌, ◌%◌, ◌<◌, ◌≤◌, ◌&&◌, nat_lt, nat_le, Bool, true, List}
use Rattle.rx_spec.proofs.Prelude.{length, slice_index, ap, sym, ◌∙◌, subst, ⊎_elim, arith, range_with_len}
use Rattle.rx_spec.proofs.Prelude.{IsPermutation, Option, is_some, mod-eq_of_lt, cases_lt, false≢true, max_id}
use Rattle.rx_spec.proofs.Prelude.{row_of, is_match}
use Rattle.rx_order.proofs.Prelude.{AreSkippable, HaveMatches, IsId, IsId-row_id, IsRowId-row, Layout, are_needles}
use Rattle.rx_order.proofs.Prelude.{id_few, ids_of, is_start_row, kind_by, leaving_of, row_count}
use Rattle.rx_order.proofs.Prelude.{row_of-row, stride, table_of}
use Rattle.std.specs.Prelude.{IsSome}
use Rattle.rx_dense.specs.Layouts.{AreRows}
use Rattle.rx_order.proofs.ExchangedRows.{count_of, row_below}
use Rattle.rx_order.proofs.KindNumbers.{between, high_accels, high_kind, high_matches, kind_high, kind_low}

-- a row's id, as it is made of its number
pub record IsNumbered (l : Layout) (row : ℕ) : Type 0 where
  pub is_id : IsId (ids_of l) (row * stride l)
  pub row_is : row_of (ids_of l) (row * stride l) ≡ row
  pub few : row * stride l ≤ max_id
  pub shifted : row * stride l % 18446744073709551616 ≡ row * stride l

pub row_numbered : (l : Layout) → AreRows l → (row : ℕ) → row < row_count l → IsNumbered l row
row_numbered l are row h =
    let is = IsRowId-row l row h in
    let few = id_few l are (row * stride l) is in
    record {
      is_id = IsId-row_id l (row * stride l) is;
      row_is = row_of-row l row h;
      few = few;
      shifted = mod-eq_of_lt (omega (arith, few));
    }

-- so the id that is made of a row's number is the row's
pub id_of_number : (l : Layout) → AreRows l → (row : ℕ) → row < row_count l → (id : ℕ)
    → id ≡ row * stride l % 18446744073709551616 → IsId (ids_of l) id × (row_of (ids_of l) id ≡ row)
id_of_number l are row h id e =
    let n = row_numbered l are row h in
    let is = e ∙ n.shifted in
    (subst (IsId (ids_of l)) (sym is) n.is_id, ap (row_of (ids_of l)) is ∙ n.row_is)

-- a test that holds is that of something
pub some_of : {X : Type 0} (o : Option X) → is_some o ≡ true → IsSome o
some_of o e = grind (arith, common_steps, false≢true)

module _ {l : Layout} {rows ends : List ℕ} (s : AreSkippable l rows ends) where
  pub permutation : IsPermutation (range_with_len 0 (row_count l)) rows
  permutation = grind (arith, common_steps)

  pub rows_count : length rows ≡ row_count l
  rows_count = count_of permutation

  pub place_below : (place kind : ℕ) → kind < 8 → place < slice_index ends kind → place < row_count l
  place_below place kind h b = omega (arith, (s.by_kind.before place kind h b).0, s.kinds_are.count)

  -- further kinds end further behind
  pub ends_rise : (kind other : ℕ) → kind ≤ other → other < 8 → slice_index ends kind ≤ slice_index ends other
  ends_rise kind other h b =
      ⊎_elim
      (λ (past : slice_index ends other < slice_index ends kind).
      let at = s.by_kind.before (slice_index ends other) kind (omega arith) past in
      let behind = s.by_kind.behind (slice_index ends other) other at.0 b (omega arith) in
      absurd (omega (arith, at.1, behind)))
      (λ (rises : slice_index ends kind ≤ slice_index ends other). rises)
      (cases_lt (slice_index ends other) (slice_index ends kind))

  pub row_in : (place : ℕ) → place < row_count l → slice_index rows place < row_count l
  row_in place h = row_below permutation place h

  pub numbered : (row : ℕ) → row < row_count l → IsNumbered l row
  numbered row h = row_numbered l s.are_rows row h

  high_row : (place : ℕ) → place < row_count l → 1 < slice_index s.kinds (slice_index rows place)
      → slice_index s.kinds (slice_index rows place)
      ≡ high_kind (is_match (table_of l) (slice_index rows place))
      (are_needles (leaving_of (table_of l) (slice_index rows place))) (is_start_row l (slice_index rows place))
  high_row place h above =
      let row : ℕ = slice_index rows place in
      let m = is_match (table_of l) row in
      let a = are_needles (leaving_of (table_of l) row) in
      let b = is_start_row l row in
      let is : slice_index s.kinds row ≡ kind_by row m a b = s.kinds_are.kinds_are row (row_in place h) in
      let high : 1 < row = by_kind row m a b (omega (arith, is, above)) in
      is ∙ kind_high row m a b high
    where
      by_kind : (row : ℕ) (m a b : Bool) → 1 < kind_by row m a b → 1 < row
      by_kind row m a b h = grind (arith, common_steps, kind_low, cases_lt)

  -- rows of the kinds of accelerated rows are those from which a search may skip
  pub skippable : (place : ℕ) → slice_index ends 2 ≤ place → place < slice_index ends 5
      → are_needles (leaving_of (table_of l) (slice_index rows place)) ≡ true
  skippable place low high =
      let below = place_below place 5 (omega arith) high in
      let kind = slice_index s.kinds (slice_index rows place) in
      let above = s.by_kind.behind place 2 (omega (arith, s.kinds_are.count)) (omega arith) low in
      let within = (s.by_kind.before place 5 (omega arith) high).1 in
      let is = high_row place below (omega (arith, above)) in
      sym (high_accels (is_match (table_of l) (slice_index rows place))
      (are_needles (leaving_of (table_of l) (slice_index rows place))) (is_start_row l (slice_index rows place)))
      ∙ ap (λ k. nat_lt 2 k && nat_le k 5) (sym is)
      ∙ between 2 5 (slice_index s.kinds (slice_index rows place)) above within

  -- rows of the kinds of match rows are these
  pub matching : (place : ℕ) → slice_index ends 1 ≤ place → place < slice_index ends 3
      → is_match (table_of l) (slice_index rows place) ≡ true
  matching place low high =
      let below = place_below place 3 (omega arith) high in
      let above = s.by_kind.behind place 1 (omega (arith, s.kinds_are.count)) (omega arith) low in
      let within = (s.by_kind.before place 3 (omega arith) high).1 in
      let is = high_row place below above in
      sym (high_matches (is_match (table_of l) (slice_index rows place))
      (are_needles (leaving_of (table_of l) (slice_index rows place))) (is_start_row l (slice_index rows place)))
      ∙ ap (λ k. nat_lt 1 k && nat_le k 3) (sym is)
      ∙ between 1 3 (slice_index s.kinds (slice_index rows place)) above within

  pub have_matches : HaveMatches l rows ends
  have_matches =
      let ends_in : slice_index ends 3 ≤ length rows =
      ⊎_elim
      (λ (past : length rows < slice_index ends 3).
      absurd (omega (arith, place_below (length rows) 3 (omega arith) past, rows_count)))
      (λ (within : slice_index ends 3 ≤ length rows). within)
      (cases_lt (length rows) (slice_index ends 3)) in
      record {
        are_rows = s.are_rows;
        few = omega (arith, rows_count);
        below = λ place h. row_in place (omega (arith, rows_count));
        from = ends_rise 1 3 (omega arith) (omega arith);
        to = ends_in;
        matches = matching;
      }

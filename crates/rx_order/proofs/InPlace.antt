-- Rows that lie in order already: the table stays as it is, since each row has its own id.
use Rattle.rx_spec.proofs.Prelude.{rules, ◌≡◌, ◌≢◌, ℕ, zero, suc, ◌+◌, ◌-◌, ◌*◌, ◌<◌, ◌≤◌, ◌∙◌, List, slice_index, refl}
use Rattle.rx_spec.proofs.Prelude.{ap, sym, subst, ⊎_elim, arith, common_steps, range_with_len, IsPermutation, cases_eq}
use Rattle.rx_spec.proofs.Prelude.{lt-ltb, map-id, fill_by_all, All-from_get_or}
use Rattle.rx_order.proofs.Prelude.{AreStarts, AreUnmoved, IsMachineRenamed, IsNonDecreasing, IsReordered, IsRowId-row}
use Rattle.rx_order.proofs.Prelude.{Layout, column, column_within, ids_of, quotient, renamed_id, row-below, row_count}
use Rattle.rx_order.proofs.Prelude.{start_is_row, stride}
use Rattle.std.proofs.lemmas.List.Folds.{map_fixed}
use Rattle.rx_lemmas.proofs.Ids.{id_of-dense}
use Rattle.rx_order.proofs.ExchangedRows.{count_of, places_apart, row_below}
use Rattle.rx_dense.specs.Builder.{renamed}
use Rattle.rx_dense.specs.Layouts.{AreRows, IsRowId}
use Rattle.rx_dense.proofs.Renaming.{same_lists, words_renamed}
use Rattle.rx_order.proofs.Moved.{unmoved}

-- The numbers below n in an order that does not fall are in their places.
module _ (n : ℕ) {order : List ℕ} (p : IsPermutation (range_with_len 0 n) order) (rises : IsNonDecreasing order) where
  next : (place : ℕ) → place + 1 < n → slice_index order place < slice_index order (place + 1)
  next place h =
      let up = rises place (place + 1) 0 (omega arith) (omega (arith, count_of p)) in
      ⊎_elim
      (λ (e : slice_index order place ≡ slice_index order (place + 1)).
      absurd (omega (arith, places_apart p place (place + 1) (omega arith) h e)))
      (λ (ne : slice_index order place ≢ slice_index order (place + 1)). omega arith)
      (cases_eq (slice_index order place) (slice_index order (place + 1)))

  at_least : (place : ℕ) → place < n → place ≤ slice_index order place
  at_least zero h = omega arith
  at_least (suc place) h =
      let more : place + 1 ≡ suc place = omega arith in
      let low = at_least place (omega arith) in
      let up = subst (λ x. slice_index order place < slice_index order x) more (next place (omega arith)) in
      omega arith

  at_most : (left place : ℕ) → place + left + 1 ≡ n → slice_index order place ≤ place
  at_most zero place e = omega (arith, row_below p place (omega arith))
  at_most (suc left) place e =
      let low = at_most left (place + 1) (omega arith) in
      let up = next place (omega arith) in
      omega arith

  pub each_in_place : order ≡ range_with_len 0 n
  each_in_place =
      fill_by_all (λ place. place) order n 0 (count_of p)
      (λ place h.
      let low = at_least place h in
      let high = at_most (n - place - 1) place (omega arith) in
      omega arith)
      ∙ map-id (range_with_len 0 n)

-- ---- a table whose rows are in their places

module _ {l : Layout} (rows : AreRows l) (starts : AreStarts l) where
  -- a row's id is the one that the list of all ids has for it
  own_id : (id : ℕ) → IsRowId l id → renamed_id l (ids_of l) id ≡ id
  own_id id is = grind (arith, common_steps, id_of-dense, row-below, quotient)

  own_word : (row unit : ℕ) → row < row_count l → unit < 257
      → IsRowId l (slice_index l.words (row * stride l + column l unit))
  own_word row unit b within =
      let low = column_within l rows.classes unit within in
      let fits = rows.fits in
      let below = (IsRowId-row l row b).below in
      rows.next_ids (row * stride l + column l unit) (omega arith)

  own_names : l ≡ renamed l (ids_of l)
  own_names =
      same_lists {k = l} {l = l} refl
      (words_renamed l (ids_of l) l.words refl (λ k b entry. sym (own_id _ (rows.next_ids k b))) (λ k b past. refl))
      (sym
      (map_fixed (renamed_id l (ids_of l)) l.starts
      (All-from_get_or (λ id. renamed_id l (ids_of l) id ≡ id) l.starts 0
      (λ k b. own_id _ (starts.start_ids k b)))))

  own_machine : IsMachineRenamed l l (ids_of l)
  own_machine = search (rules, own_id, own_word, lt-ltb, start_is_row)

  pub in_place : {lying ids order : List ℕ} → AreUnmoved l lying ids → order ≡ range_with_len 0 (row_count l)
      → IsReordered order l l
  in_place {lying} {ids} {order} is e = record {
    now = l;
    lying = lying;
    ids = ids;
    moved = unmoved l lying ids is;
    there = λ place h. ap (λ rows. slice_index rows place) (is.rows ∙ sym e);
    is = subst (λ ids. l ≡ renamed l ids) (sym is.places) own_names;
    machine = subst (IsMachineRenamed l l) (sym is.places) own_machine;
  }

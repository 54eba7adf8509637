-- Words over pairs of rows.
use Rattle.rx_spec.proofs.Prelude.{common_steps, ℕ, suc, ap₂, arith, ◌≡◌, ◌+◌, ◌≤◌, Some, List, [], ◌∷◌, length, map}
use Rattle.rx_spec.proofs.Prelude.{drop, ap, sym, ◌∙◌, subst, drop-cons, Result, Ok, Err, slice_get_within}
use Rattle.rx_spec.proofs.Prelude.{get_or_from_slice_get, same_Some, slice_get, run, Table, label_after, StartError}
use Rattle.rx_spec.specs.declared.Unit.{Unit}
use Rattle.rx_base.specs.Unit.{unit_number}
use Rattle.rx_lemmas.proofs.Words.{run-nil, run-cons}
use Rattle.rx_base.specs.StartConfig.{StartConfig}
use Rattle.rx_equal.specs.Partings.{answer_at, AreAlikeBy}
use Rattle.rx_equal.specs.Evidence.{RowPair, next_pair, start_pair, both, HaveEqualLabels}

pub drop_get : {X : Type 0} (xs : List X) (i : ℕ) (x : X) → slice_get xs i ≡ Some x → drop i xs ≡ x ∷ drop (i + 1) xs
drop_get xs i x e =
    let one : suc i ≡ i + 1 = omega arith in
    drop-cons xs i x (slice_get_within xs i x e)
    ∙ ap₂ (λ y n. y ∷ drop n xs) (get_or_from_slice_get xs i x x e) one

-- one unit of a word is read
pub word_on : (next : RowPair → ℕ → RowPair) (word : List Unit) (i : ℕ) (unit : Unit) (row led : RowPair)
    {end : RowPair}
    → slice_get word i ≡ Some unit → led ≡ next row (unit_number unit)
    → run next row (map unit_number (drop i word)) ≡ end
    → run next led (map unit_number (drop (i + 1) word)) ≡ end
word_on next word i unit row led {end} there is left =
    ap (λ p. run next p (map unit_number (drop (i + 1) word))) is
    ∙ sym (run-cons next row (unit_number unit) (map unit_number (drop (i + 1) word)))
    ∙ ap (λ w. run next row (map unit_number w)) (sym (drop_get word i unit there))
    ∙ left

-- nothing of it is left
pub word_end : (next : RowPair → ℕ → RowPair) (word : List Unit) (i : ℕ) (row : RowPair) {end : RowPair}
    → length word ≤ i → run next row (map unit_number (drop i word)) ≡ end → end ≡ row
word_end next word i row {end} past left = grind (arith, common_steps, run-nil)

-- a word leads from a pair to the two rows to which it leads in either table
pub run_both : (t u : Table) (p : RowPair) (word : List ℕ)
    → run (next_pair t u) p word
    ≡ record { row = run t.machine.next p.row word; other = run u.machine.next p.other word }
run_both t u p [] = grind (arith, common_steps, run-nil)
run_both t u p (unit ∷ word) = grind (arith, common_steps, run-cons, run_both t u (next_pair t u p unit) word)

-- labels where a word has led from both rows
pub labels_led : (t u : Table) (start end : RowPair) (word : List ℕ) → run (next_pair t u) start word ≡ end
    → (label_after t.machine start.row word ≡ t.machine.label end.row)
    × (label_after u.machine start.other word ≡ u.machine.label end.other)
labels_led t u start end word leads = grind (arith, common_steps, run_both)

pub rows_begin : (o r : Result ℕ StartError) (p : RowPair) → both o r ≡ Some p → (o ≡ Ok p.row) × (r ≡ Ok p.other)
rows_begin (Ok x) (Ok y) p e = grind (arith, common_steps, same_Some)
rows_begin (Err e') (Ok y) p e = absurd (cc)
rows_begin (Ok x) (Err f) p e = absurd (cc)
rows_begin (Err e') (Err f) p e = absurd (cc)

module _ (t u : Table) (place : StartConfig) (start end : RowPair) (word : List ℕ)
    (begins : start_pair t u place ≡ Some start) (leads : run (next_pair t u) start word ≡ end) where
  pub alike_from_labels : HaveEqualLabels t u end → AreAlikeBy t u word (answer_at t place) (answer_at u place)
  alike_from_labels e =
      let rows = rows_begin (answer_at t place) (answer_at u place) start begins in
      let led = labels_led t u start end word leads in
      grind (arith, common_steps)

  pub labels_from_alike : AreAlikeBy t u word (answer_at t place) (answer_at u place) → HaveEqualLabels t u end
  labels_from_alike h =
      let rows = rows_begin (answer_at t place) (answer_at u place) start begins in
      let led = labels_led t u start end word leads in
      let same : label_after t.machine start.row word ≡ label_after u.machine start.other word =
      subst (λ o. AreAlikeBy t u word (Ok start.row) o) rows.1
      (subst (λ o. AreAlikeBy t u word o (answer_at u place)) rows.0 h) in
      sym led.0 ∙ same ∙ led.1

-- The columns that rows read: each is named once, and more of them behind change no row's.
use Rattle.std.proofs.lemmas.Bool.{cases_Bool}
use Rattle.rx_spec.proofs.Prelude.{common_steps, ◌≡◌, ℕ, zero, suc, ◌+◌, ◌<◌, ◌≤◌, ◌==◌, ◌⊎◌, inl, inr, ⊎_elim, Bool}
use Rattle.rx_spec.proofs.Prelude.{true, false, List, [], ◌∷◌, ◌++◌, Some, length, refl, ap, ap₂, sym, ◌∙◌, arith}
use Rattle.rx_spec.proofs.Prelude.{append-nil, length-append, subst, map, get_or, filter, slice_get, slice_index, All}
use Rattle.rx_spec.proofs.Prelude.{range_with_len, cases_lt, eq-eqb, ne_eqb, get_or-map, filter-append}
use Rattle.rx_spec.proofs.Prelude.{length-range_with_len, get_or-range_with_len, Row, row_at, target}
use Rattle.rx_stepper.proofs.Prelude.{AreSpans, Grown, IsRowSpan, Reads, Unit, columns_of, flat_map-append_of, led_by}
use Rattle.rx_stepper.proofs.Prelude.{next_of, only_if, unit_number}
use Rattle.rx_stepper.specs.declared.column_span.ColumnSpan.{ColumnSpan}
use Rattle.rx_stepper.proofs.TargetLists.{only_nothing}

-- ---- one row

pub range_more : (a n : ℕ) → range_with_len a (suc n) ≡ range_with_len a n ++ (a + n) ∷ []
range_more a zero = ap (λ k. k ∷ []) (omega arith)
range_more a (suc n) =
    ap (λ l. a ∷ l) (range_more (a + 1) n)
    ∙ ap (λ k. a ∷ (range_with_len (a + 1) n ++ k ∷ [])) (omega arith)

-- one more column is looked at
pub read_more : (test : ℕ → Bool) (n : ℕ) → filter test (range_with_len 0 (n + 1))
    ≡ filter test (range_with_len 0 n) ++ only_if (test n) (n ∷ [])
read_more test n =
    let one : n + 1 ≡ suc n = omega arith in
    let same : 0 + n ≡ n = omega arith in
    ap (λ k. filter test (range_with_len 0 k)) one ∙ ap (filter test) (range_more 0 n)
    ∙ filter-append test (range_with_len 0 n) ((0 + n) ∷ [])
    ∙ ap (λ k. filter test (range_with_len 0 n) ++ only_if (test k) (k ∷ [])) same

module _ (next : ℕ) (test : ℕ → Bool) (column : ℕ) where
  abbrev led : List ℕ → List ℕ
  led columns = led_by next columns column

  led_more : (n : ℕ) → led (filter test (range_with_len 0 (suc n)))
      ≡ led (filter test (range_with_len 0 n)) ++ led (only_if (test n) (n ∷ []))
  led_more n =
      let one : suc n ≡ n + 1 = omega arith in
      ap (λ k. led (filter test (range_with_len 0 k))) one ∙ ap led (read_more test n)
      ∙ flat_map-append_of (λ c. only_if (column == c) (next ∷ [])) (filter test (range_with_len 0 n))
      (only_if (test n) (n ∷ []))

  led_last : (n : ℕ) (b : Bool) → led (only_if b (n ∷ [])) ≡ only_if b (only_if (column == n) (next ∷ []))
  led_last n b = grind (arith, common_steps, cases_Bool, append-nil)

  led_none : (n : ℕ) → n ≤ column → led (filter test (range_with_len 0 n)) ≡ []
  led_none zero h = refl
  led_none (suc n) h =
      let other : (column == n) ≡ false = ne_eqb column n (omega arith) in
      led_more n
      ∙ ap₂ (λ a b. a ++ b) (led_none n (omega arith))
      (led_last n (test n) ∙ ap (λ b. only_if (test n) (only_if b (next ∷ []))) other ∙ only_nothing (test n))

  pub led_once : (n : ℕ) → column < n → led (filter test (range_with_len 0 n)) ≡ only_if (test column) (next ∷ [])
  led_once zero h = absurd (omega arith)
  led_once (suc n) h =
      led_more n
      ∙ ⊎_elim
      (λ (lt : column < n).
      let other : (column == n) ≡ false = ne_eqb column n (omega arith) in
      ap₂ (λ a b. a ++ b) (led_once n lt)
      (led_last n (test n) ∙ ap (λ b. only_if (test n) (only_if b (next ∷ []))) other ∙ only_nothing (test n))
      ∙ append-nil (only_if (test column) (next ∷ [])))
      (λ (le : n ≤ column).
      let same : n ≡ column = omega arith in
      ap₂ (λ a b. a ++ b) (led_none n le)
      (led_last n (test n) ∙ ap (λ b. only_if (test n) (only_if b (next ∷ []))) (eq-eqb column n (sym same))
      ∙ ap (λ k. only_if (test k) (next ∷ [])) same))
      (cases_lt column n)

pub led_of : (row : Row) (units : List ℕ) (column : ℕ) → column < length units
    → led_by (next_of row) (columns_of row units) column ≡ target (slice_index units column) row
led_of row units column h = grind (arith, common_steps, led_once)

-- a turn of the loop over columns: the column is read, or it isn't
pub column_pushed : (test : ℕ → Bool) (n : ℕ) (old : List ℕ) {before after : List ℕ}
    → before ≡ old ++ filter test (range_with_len 0 n) → test n ≡ true → after ≡ before ++ n ∷ []
    → after ≡ old ++ filter test (range_with_len 0 (n + 1))
column_pushed test n old so_far read e = grind (arith, common_steps, read_more)

pub column_passed : (test : ℕ → Bool) (n : ℕ) (old : List ℕ) {before after : List ℕ}
    → before ≡ old ++ filter test (range_with_len 0 n) → test n ≡ false → after ≡ before
    → after ≡ old ++ filter test (range_with_len 0 (n + 1))
column_passed test n old so_far unread e = grind (arith, common_steps, read_more)

pub unit_there : (units : List Unit) (column : ℕ) (d : Unit) → column < length units
    → slice_index (map unit_number units) column ≡ unit_number (get_or units column d)
unit_there units column d h = get_or-map unit_number units column d 0 h

pub range_few : (n : ℕ) → All (λ c. c < n) (range_with_len 0 n)
range_few n k d h = grind (arith, common_steps, length-range_with_len, get_or-range_with_len)

-- ---- all rows

get-push : {X : Type 0} (xs : List X) (y : X) (k : ℕ) (x : X) → slice_get (xs ++ y ∷ []) k ≡ Some x
    → (slice_get xs k ≡ Some x) ⊎ ((k ≡ length xs) × (x ≡ y))
get-push [] y zero x there = inr (refl, cc)
get-push [] y (suc k) x there = absurd cc
get-push (z ∷ xs) y zero x there = inl there
get-push (z ∷ xs) y (suc k) x there =
    ⊎_elim (λ before. inl before) (λ end. inr (ap suc end.0, end.1)) (get-push xs y k x there)

-- the rows below a number
pub record ReadsBelow (rows : List Row) (units : List ℕ) (i : ℕ) (columns : List ℕ)
    (spans : List ColumnSpan) : Type 0 where
  pub len : length spans ≡ i
  pub each : (q : ℕ) (s : ColumnSpan) → slice_get spans q ≡ Some s → IsRowSpan units columns (row_at rows q) s

-- no row yet, then one more
pub reads_none : {rows : List Row} {units columns : List ℕ} {spans : List ColumnSpan} → spans ≡ []
    → ReadsBelow rows units 0 columns spans
reads_none {rows} {units} {columns} none = rw none (record { len = refl; each = λ q s there. absurd cc })

span_grown : {count : ℕ} {units before after : List ℕ} {row : Row} {s : ColumnSpan} → Grown count before after
    → IsRowSpan units before row s → IsRowSpan units after row s
span_grown {s = s} grown is = grind (arith, common_steps)

pub reads_more : {rows : List Row} {units : List ℕ} {i count : ℕ} {before after : List ℕ} {spans more : List ColumnSpan}
    {row : Row} {s : ColumnSpan} → ReadsBelow rows units i before spans → Grown count before after
    → row_at rows i ≡ row → IsRowSpan units after row s → more ≡ spans ++ s ∷ []
    → ReadsBelow rows units (i + 1) after more
reads_more {rows} {units} {i} {count} {before} {after} {spans} {more} {row} {s} below grown here is e = rw e (record {
  len = omega (arith, length-append spans (s ∷ []));
  each = λ q t there. elim (get-push spans s q t there) [
    | inl old ↦ span_grown grown (below.each q t old)
    | inr end ↦
        let place : q ≡ i = end.0 ∙ below.len in
        subst (λ u. IsRowSpan units after (row_at rows q) u) (sym end.1)
        (subst (λ r. IsRowSpan units after r s) (sym (ap (row_at rows) place ∙ here)) is)
  ];
})

pub reads_all : {rows : List Row} {units columns : List ℕ} {i : ℕ} {spans : List ColumnSpan}
    → ReadsBelow rows units i columns spans → i ≡ length rows → Reads rows units columns spans
reads_all {rows} {units} {columns} below all = record {
  len = below.len ∙ all;
  reads = λ q s there column h.
      let is = below.each q s there in
      ap₂ (λ n l. led_by n l column) is.leads is.holds ∙ led_of (row_at rows q) units column h;
}

pub are_spans : {rows : List Row} {units columns : List ℕ} {i count : ℕ} {spans : List ColumnSpan}
    → ReadsBelow rows units i columns spans → All (λ column. column < count) columns → AreSpans count columns spans
are_spans below few = record {
  within = λ q s there. let is = below.each q s there in (is.order, is.within);
  few = few;
}

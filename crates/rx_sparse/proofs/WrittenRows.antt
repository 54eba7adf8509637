-- The bytes of a row, part behind part.
use Rattle.rx_spec.proofs.Prelude.{common_steps, flat_map-append, ◌≡◌, ℕ, ◌<◌, ◌≤◌, List, [], ◌∷◌, ◌++◌, length, map}
use Rattle.rx_spec.proofs.Prelude.{take, slice_index, get_or, Result, Ok, Err, refl, ap, append_assoc, arith, IfOk}
use Rattle.rx_spec.proofs.Prelude.{if◌then◌else◌, w16, w32, append-nil, take_all, length-map}
use Rattle.std.specs.Result.{is_ok}
use Rattle.rx_wire.specs.declared.order.Order.{Order}
use Rattle.rx_wire.specs.Fields.{field}
use Rattle.rx_sparse.specs.declared.ranges.ClassRange.{ClassRange}
use Rattle.rx_sparse.specs.Rows.{Row, ends_text, head_number, next_ids, no_range, patterns_text, row_text, words_text}
use Rattle.rx_sparse.specs.Sparse.{renamed_range, renamed_row}
use Rattle.rx_sparse.proofs.RowTexts.{next_there, pairs_text}

-- ---- results

pub if_ok : {A E : Type 0} {P Q : A → Type 0} (r : Result A E) → IfOk r P → ((x : A) → P x → Q x) → IfOk r Q
if_ok (Ok x) h f = f x h
if_ok (Err e) h f = tt

pub if_added : {A E : Type 0} (r : Result A E) {new want : List ℕ} (old xs : List ℕ)
    → new ≡ (if is_ok r then old ++ xs else old)
    → (new ≡ old ++ xs → new ≡ want) → IfOk r (λ _. new ≡ want)
if_added (Ok x) old xs e f = f e
if_added (Err x) old xs e f = tt

-- ---- renamed rows

module _ (f : ℕ → ℕ) where
  abbrev next_of : ClassRange → ℕ
  next_of range = f range.next

  pairs-renamed : (ranges : List ClassRange) → pairs_text (map (renamed_range f) ranges) ≡ pairs_text ranges
  pairs-renamed [] = refl
  pairs-renamed (range ∷ ranges) = ap (λ t. range.first ∷ (range.last ∷ t)) (pairs-renamed ranges)

  ends-renamed : (ranges : List ClassRange) → ends_text (map (renamed_range f) ranges) ≡ ends_text ranges
  ends-renamed ranges = ap (λ t. t ++ 0 ∷ 0 ∷ []) (pairs-renamed ranges)

  next-of-renamed : (ranges : List ClassRange) → map (λ r. r.next) (map (renamed_range f) ranges) ≡ map next_of ranges
  next-of-renamed [] = refl
  next-of-renamed (range ∷ ranges) = ap (λ ids. f range.next ∷ ids) (next-of-renamed ranges)

  -- the ids of the ranges, and last that of the end mark
  pub next_ids-put : (order : Order) (row : Row) (old : List ℕ) {before after : List ℕ} (place : ℕ)
      → length row.ranges ≤ place
      → before ≡ old ++ words_text order (map next_of (take place row.ranges))
      → after ≡ before ++ field order w32 (f row.eoi)
      → after ≡ old ++ words_text order (next_ids (renamed_row f row))
  next_ids-put order row old {before} {after} place h was is =
      grind (arith, common_steps, take_all, append_assoc, append-nil, flat_map-append, next-of-renamed)

  regroup : (old h e i p : List ℕ) (n : ℕ) (ns : List ℕ)
      → (((((old ++ h) ++ e) ++ i) ++ p) ++ n ∷ []) ++ ns ≡ old ++ (h ++ (e ++ (i ++ (p ++ (n ∷ ns)))))
  regroup old h e i p n ns = simp append_assoc refl

  -- the parts of a row
  pub row-put : (order : Order) (row : Row) (old : List ℕ) {a b c d e new : List ℕ}
      → a ≡ old ++ field order w16 (head_number row) → b ≡ a ++ ends_text row.ranges
      → c ≡ b ++ words_text order (next_ids (renamed_row f row)) → d ≡ c ++ patterns_text order row.patterns
      → e ≡ d ++ length row.needles ∷ [] → new ≡ e ++ row.needles
      → new ≡ old ++ row_text order (renamed_row f row)
  row-put order row old {a} {b} {c} {d} {e} {new} ha hb hc hd he hn =
      grind (arith, common_steps, regroup, length-map row.ranges (renamed_range f), ends-renamed)

-- ---- ids

-- the ids of a row that has them
pub range_id : (row : Row) (i : ℕ) → i < length row.ranges
    → slice_index (next_ids row) i ≡ (get_or row.ranges i no_range).next
range_id row i h = next_there row.ranges (row.eoi ∷ []) i h

-- a row of its parts
pub row_parts : {row : Row} {ranges : List ClassRange} {eoi : ℕ} {patterns needles : List ℕ} → ranges ≡ row.ranges
    → eoi ≡ row.eoi → patterns ≡ row.patterns → needles ≡ row.needles
    → record { ranges = ranges; eoi = eoi; patterns = patterns; needles = needles } ≡ row
row_parts {row} {ranges} {eoi} {patterns} {needles} a b c d = rw (a, b, c, d) refl

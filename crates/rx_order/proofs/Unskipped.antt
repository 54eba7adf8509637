-- A table no row of which gets needles stays as it is.
use Rattle.std.proofs.lemmas.Bool.{cases_Bool}
use Rattle.rx_spec.proofs.Prelude.{common_steps, ◌≡◌, ℕ, zero, suc, ◌+◌, ◌*◌, ◌<◌, ◌≤◌, ◌==◌, ◌&&◌, not, nat_lt, Bool}
use Rattle.rx_spec.proofs.Prelude.{true, false, List, [], ◌∷◌, length, filter, slice_index, refl, ap, sym, ◌∙◌, ⊎_elim}
use Rattle.rx_spec.proofs.Prelude.{arith, if◌then◌else◌, and-false, cases_eq, cases_lt, eq-eqb, ne_eqb, or_parts}
use Rattle.rx_spec.proofs.Prelude.{get_or-range_with_len, length-range_with_len, list_any, range_with_len, IsSound}
use Rattle.rx_spec.proofs.Prelude.{Table, is_match, leaving}
use Rattle.rx_order.proofs.Prelude.{AreJoined, AreKinds, IsAccelerated, IsInOrder, IsPermutation-refl, IsPlain, Layout}
use Rattle.rx_order.proofs.Prelude.{Special, are_needles, every_in_range, filter_alike, is_accel_id, is_accel_kind}
use Rattle.rx_order.proofs.Prelude.{is_skippable, is_start_row, kind_by, leaving_of, place_in_range, row_count, stride}
use Rattle.rx_order.proofs.Prelude.{table_of}
use Rattle.rx_order.proofs.KindNumbers.{at_most, over}
use Rattle.rx_order.proofs.Leaving.{last_false, leaving_is}

none_pass : (xs : List ℕ) → filter (λ b. false) xs ≡ []
none_pass [] = refl
none_pass (x ∷ xs) = none_pass xs

all_pass : (xs : List ℕ) → filter (λ b. true) xs ≡ xs
all_pass [] = refl
all_pass (x ∷ xs) = ap (λ (ys : List ℕ). x ∷ ys) (all_pass xs)

too_many : (xs : List ℕ) → 3 < length xs → are_needles xs ≡ false
too_many xs h = grind (arith, common_steps, at_most, over)

-- dead and quit get none
module _ {t : Table} (sound : IsSound t) where
  dead_stays : leaving t 0 ≡ []
  dead_stays =
      filter_alike (λ b. not (t.machine.next 0 b == 0)) (λ b. false) (range_with_len 0 256)
      (every_in_range (λ b. not (t.machine.next 0 b == 0) ≡ false) 0 256
      (λ b low high. ap not (eq-eqb (t.machine.next 0 b) 0 (sound.is_table.dead_stays b (omega
      (arith, high))))))
      ∙ none_pass (range_with_len 0 256)

  quit_leaves : leaving t 1 ≡ range_with_len 0 256
  quit_leaves =
      filter_alike (λ b. not (t.machine.next 1 b == 1)) (λ b. true) (range_with_len 0 256)
      (every_in_range (λ b. not (t.machine.next 1 b == 1) ≡ true) 0 256
      (λ b low high.
      let dead = sound.is_table.quit_ends b (omega (arith, high)) in
      ap not (ne_eqb (t.machine.next 1 b) 1 (λ e. absurd (omega (arith, dead, e))))))
      ∙ all_pass (range_with_len 0 256)

  many : are_needles (range_with_len 0 256) ≡ false
  many = too_many (range_with_len 0 256) (omega (arith, length-range_with_len 0 256))

  pub low_none : (row : ℕ) → row ≤ 1 → are_needles (leaving t row) ≡ false
  low_none zero low = ap are_needles dead_stays
  low_none (suc zero) low = ap are_needles quit_leaves ∙ many
  low_none (suc (suc row)) low = absurd (omega (arith, low))

-- ---- a table no row of which is skipped from

none_at : (p : ℕ → Bool) (xs : List ℕ) → list_any p xs ≡ false → (i : ℕ) → i < length xs
    → p (slice_index xs i) ≡ false
none_at p [] e i h = absurd (omega arith)
none_at p (x ∷ xs) e zero h = (or_parts (p x) (list_any p xs) e).0
none_at p (x ∷ xs) e (suc i) h = none_at p xs (or_parts (p x) (list_any p xs) e).1 i (omega arith)

-- a kind that isn't one of accelerated rows is that of a row which isn't
plain_kind : (row : ℕ) (matches accelerated starts : Bool) → 1 < row
    → is_accel_kind (kind_by row matches accelerated starts) ≡ false → accelerated ≡ false
plain_kind row matches accelerated starts h e = grind (arith, common_steps, cases_Bool, ne_eqb)

-- no id is that of an accelerated row where none is named
no_accel : (special : Special) (id : ℕ) → special.min_accel ≡ 0 → special.max_accel ≡ 0
    → is_accel_id special id ≡ false
no_accel special id first last = grind (arith, common_steps, eq-eqb, last_false, over, and-false, cases_eq)

module _ {l : Layout} (in_order : IsInOrder l) (plain : IsPlain l) (joined : AreJoined l) {kinds : List ℕ}
    (are : AreKinds l (is_match (table_of l)) (λ row. are_needles (leaving_of (table_of l) row)) kinds)
    (none : list_any is_accel_kind kinds ≡ false) where
  sound : IsSound (table_of l)
  sound = in_order.sound

  size : ℕ
  size = row_count l

  not_skippable : (row : ℕ) → row < row_count l → is_skippable (table_of l) row ≡ false
  not_skippable row h =
      ⊎_elim
      (λ (high : 1 < row).
      let kind = sym (ap is_accel_kind (are.kinds_are row h))
      ∙ none_at is_accel_kind kinds none row (omega (arith, h, are.count)) in
      let bytes = plain_kind row (is_match (table_of l) row) (are_needles (leaving_of (table_of l) row))
      (is_start_row l row) high kind in
      ap (λ b. nat_lt 2 (row_count l) && b)
      (ap are_needles (sym (leaving_is (table_of l) row)) ∙ bytes)
      ∙ and-false (nat_lt 2 (row_count l)))
      (λ (low : row ≤ 1).
      ap (λ b. nat_lt 2 (row_count l) && b) (low_none sound row low) ∙ and-false (nat_lt 2 (row_count l)))
      (cases_lt 1 row)

  own : (row : ℕ) → row < row_count l → slice_index (range_with_len 0 (row_count l)) row ≡ row
  own row h = omega (arith, get_or-range_with_len 0 (row_count l) row 0 h)

  pub stays : IsAccelerated l l
  stays =
      let two = sound.is_table.two in
      record {
        numbers = range_with_len 0 (row_count l);
        permuted = record {
          permutation = IsPermutation-refl (range_with_len 0 (row_count l));
          size = refl;
          dead = own 0 (omega (arith, two));
          quit = own 1 (omega (arith, two));
          entries = λ mode start. sym (own _ (sound.is_table.entries mode start));
          nexts = λ row unit h u.
              ap (λ r. (table_of l).machine.next r unit) (own row h)
              ∙ sym (own _ (sound.is_table.nexts row unit h u));
        };
        labels = λ row h. ap (table_of l).machine.label (own row h);
        accelerated = λ row h.
            no_accel l.special (row * stride l) plain.min_accel plain.max_accel ∙ sym (not_skippable row h);
        counted =
            ap length plain.accels
            ∙ sym (ap (λ b. if b then 0 else place_in_range l l.special.min_accel l.special.max_accel + 1)
            (eq-eqb l.special.min_accel 0 plain.min_accel));
        starts = λ row h. ap (is_start_row l) (own row h);
        marked = refl;
        in_order = in_order;
        joined = joined;
        rest = refl;
      }

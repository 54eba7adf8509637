-- Tables in which no row is accelerated, and those in which no start row is marked any more.
use Rattle.rx_spec.proofs.Prelude.{common_steps, ◌≡◌, ℕ, zero, suc, ◌+◌, ◌*◌, ◌/◌, ◌<◌, ◌≤◌, ◌==◌, ◌&&◌, ◌||◌}
use Rattle.rx_spec.proofs.Prelude.{not, nat_le, ◌^◌, rules, Bool, true, false, length, refl, sym, ap, ap₂, subst, ◌∙◌}
use Rattle.rx_spec.proofs.Prelude.{⊎_elim, inl, inr, arith, and_parts, cases_lt, eq-eqb, leb-true, true≢false}
use Rattle.rx_spec.proofs.Prelude.{ne_eqb, mul-le, pow_pos, is_match}
use Rattle.rx_dense.specs.declared.special.Special.{Special}
use Rattle.rx_dense.specs.Layouts.{Layout, IsRowId, row_count, stride, table_of}
use Rattle.rx_dense.specs.Specials.{greatest, is_match_id}
use Rattle.rx_dense.proofs.Rows.{quotient, row-below}
use Rattle.rx_dense.proofs.Shaped.{id_kept}
use Rattle.rx_order.specs.RowOrder.{IsInOrder, IsPlain, IsRange, accel_count, is_start_row}
use Rattle.rx_order.proofs.KindNumbers.{at_most, high_kind, kind_high, label_match, none_in_range, over}

-- ---- no row is accelerated

pub none_accelerated : (l : Layout) → IsPlain l → (row : ℕ) → (table_of l).is_accelerated row ≡ false
none_accelerated l plain row = grind (arith, common_steps, none_in_range)

pub none_counted : (l : Layout) → IsPlain l → length l.accels ≡ accel_count l
none_counted l plain = grind (arith, common_steps, eq-eqb)

-- ---- ranges of ids

-- where as many words stand, ranges of rows are such ranges
pub range_kept : (l m : Layout) (first last : ℕ) → m.stride2 ≡ l.stride2 → m.words ≡ l.words → IsRange l first last
    → IsRange m first last
range_kept l m first last stride_is words_are range =
    let within : length l.words ≤ length m.words = omega (arith, ap length words_are) in
    ⊎_elim
    (λ (none : (first ≡ 0) × (last ≡ 0)). inl none)
    (λ (some : (stride l < first) × (first ≤ last) × IsRowId l first × IsRowId l last).
    let above : stride m < first = subst (λ k. 2 ^ k < first) (sym stride_is) some.0 in
    inr (
      above,
      some.1,
      id_kept l m first stride_is within some.2,
      id_kept l m last stride_is within some.3,
    ))
    range

-- ---- no row is marked

-- special rows without the start rows
abbrev pub unmarked_special : Special → Special
unmarked_special s = record s { min_start = 0; max_start = 0; max = greatest (record s { max_start = 0 }) }

abbrev pub unmarked : Layout → Layout
unmarked l = record l { special = unmarked_special l.special }

module _ (l : Layout) (order : IsInOrder l) (plain : IsPlain l) where
  some : 0 < stride l
  some = pow_pos l.stride2

  not_accelerated : (row : ℕ) → (table_of l).is_accelerated row ≡ false
  not_accelerated = none_accelerated l plain

  match_by_id : (row : ℕ) → is_match (table_of l) row ≡ is_match_id l.special (row * stride l)
  match_by_id row = grind (arith, common_steps, label_match)

  -- a row behind quit whose id isn't above the last match row's is a match row
  matches_first : (row : ℕ) → 1 < row → row < row_count l → row * stride l ≤ l.special.max_match
      → is_match (table_of l) row ≡ true
  matches_first row high h le =
      ⊎_elim
      (λ (none : (l.special.min_match ≡ 0) × (l.special.max_match ≡ 0)).
      let above = mul-le 1 (stride l) row (stride l) (omega arith) (omega arith) in
      absurd (omega (arith, above, some, le, none.1)))
      (λ (range : (stride l < l.special.min_match) × (l.special.min_match ≤ l.special.max_match)
      × IsRowId l l.special.min_match × IsRowId l l.special.max_match).
      let last : ℕ = l.special.max_match / stride l in
      let below = row-below l l.special.max_match range.3 in
      let whole : last * stride l ≡ l.special.max_match = quotient l.special.max_match (stride l) range.3.whole in
      let up_to : row ≤ last =
      ⊎_elim
      (λ (less : last < row).
      let more = mul-le (last + 1) (stride l) row (stride l) (omega arith) (omega arith) in
      absurd (omega (arith, more, whole, le, some)))
      (λ (is : row ≤ last). is)
      (cases_lt last row) in
      let not_zero : l.special.max_match ≡ 0 → ⊥ = λ z. absurd (omega (arith, z, range.0, range.1)) in
      let is_last : is_match (table_of l) last ≡ true =
      match_by_id last ∙ ap (is_match_id l.special) whole
      ∙ ap₂ (λ (a b : Bool). a && b && not (l.special.max_match == 0))
      (at_most l.special.min_match l.special.max_match range.1)
      (at_most l.special.max_match l.special.max_match (omega arith))
      ∙ ap not (ne_eqb l.special.max_match 0 not_zero) in
      let kinds = order.ordered.kinds row last up_to below in
      of_kind (is_match (table_of l) row) (is_start_row l row) (is_start_row l last)
      (omega (
        arith,
        kinds,
        kind_high row (is_match (table_of l) row) ((table_of l).is_accelerated row) (is_start_row l row) high
            ∙ ap (λ a. high_kind (is_match (table_of l) row) a (is_start_row l row)) (not_accelerated row),
        kind_high last (is_match (table_of l) last) ((table_of l).is_accelerated last) (is_start_row l last)
            (omega arith)
            ∙ ap₂ (λ a b. high_kind b a (is_start_row l last)) (not_accelerated last) is_last,
      )))
      order.ordered.matches
    where
      of_kind : (m c d : Bool) → high_kind m false c ≤ high_kind true false d → m ≡ true
      of_kind true c d h = refl
      of_kind false true d h = absurd (omega (arith, h))
      of_kind false false d h = absurd (omega (arith, h))

  -- the special rows that are left: dead, quit and the match rows
  special_left : (row : ℕ) → row < row_count l
      → nat_le (row * stride l) (unmarked_special l.special).max
      ≡ ((row == 0) || (row == 1) || is_match (table_of l) row)
  special_left row h =
      ⊎_elim
      (λ (high : 1 < row). by_match high (is_match (table_of l) row) refl)
      (λ (low : row ≤ 1).
      let below = mul-le row (stride l) 1 (stride l) low (omega arith) in
      at_most (row * stride l) (unmarked_special l.special).max (omega (arith, below, order.ordered.quit))
      ∙ sym (first_rows row (is_match (table_of l) row) low))
      (cases_lt 1 row)
    where
      first_rows : (row : ℕ) (m : Bool) → row ≤ 1 → ((row == 0) || (row == 1) || m) ≡ true
      first_rows zero m low = refl
      first_rows (suc zero) m low = refl
      first_rows (suc (suc k)) m low = absurd (omega (arith, low))

      behind : (m : Bool) → 1 < row → ((row == 0) || (row == 1) || m) ≡ m
      behind m high =
          let dead : row ≡ 0 → ⊥ = λ e. absurd (omega (arith, e)) in
          let quit : row ≡ 1 → ⊥ = λ e. absurd (omega (arith, e)) in
          rw (ne_eqb row 0 dead, ne_eqb row 1 quit) refl

      by_match : 1 < row → (b : Bool) → is_match (table_of l) row ≡ b
          → nat_le (row * stride l) (unmarked_special l.special).max
          ≡ ((row == 0) || (row == 1) || is_match (table_of l) row)
      by_match high true e =
          let id : is_match_id l.special (row * stride l) ≡ true = sym (match_by_id row) ∙ e in
          let both =
          and_parts (nat_le l.special.min_match (row * stride l) && nat_le (row * stride l) l.special.max_match)
          (not (row * stride l == 0)) id in
          let within = leb-true (row * stride l) l.special.max_match
          (and_parts (nat_le l.special.min_match (row * stride l)) (nat_le (row * stride l) l.special.max_match)
          both.0).1 in
          at_most (row * stride l) (unmarked_special l.special).max (omega (arith, within))
          ∙ sym (behind (is_match (table_of l) row) high ∙ e)
      by_match high false e =
          let past : l.special.max_match < row * stride l =
          ⊎_elim
          (λ (p : l.special.max_match < row * stride l). p)
          (λ (le : row * stride l ≤ l.special.max_match).
          absurd (true≢false (sym (matches_first row high h le) ∙ e)))
          (cases_lt l.special.max_match (row * stride l)) in
          let more = mul-le 2 (stride l) row (stride l) high (omega arith) in
          over (row * stride l) (unmarked_special l.special).max
          (omega (arith, past, more, some, order.ordered.quit, plain.max_accel))
          ∙ sym (behind (is_match (table_of l) row) high ∙ e)

  pub unmarked_row : (row : ℕ) → (table_of (unmarked l)).is_start row ≡ false
  unmarked_row row = none_in_range (row * stride l)

  pub unmarked_order : IsInOrder (unmarked l)
  unmarked_order =
      let sound = order.sound in
      let is = sound.is_table in
      let ordered = order.ordered in
      record {
        sound = record {
          is_table = search rules;
          eoi_goes_on = sound.eoi_goes_on;
          starts_plain = sound.starts_plain;
          patterns = sound.patterns;
          needles = sound.needles;
          some_needle = sound.some_needle;
          few_needles = sound.few_needles;
          no_needle = sound.no_needle;
          special =
              λ row h.
              special_left row h
              ∙ sym (ap₂ (λ (a b : Bool). (row == 0) || (row == 1) || is_match (table_of l) row || a || b)
              (not_accelerated row) (unmarked_row row)
              ∙ or_none ((row == 0) || (row == 1) || is_match (table_of l) row));
        };
        ordered = record {
          kinds = ordered.kinds;
          quit = ordered.quit;
          matches = range_kept l (unmarked l) _ _ refl refl ordered.matches;
          accels = range_kept l (unmarked l) _ _ refl refl ordered.accels;
          starts = inl (refl, refl);
          max = refl;
          marks = λ row h. unmarked_row row;
        };
        few = order.few;
      }
    where
      or_none : (b : Bool) → (b || false || false) ≡ b
      or_none true = refl
      or_none false = refl

  pub unmarked_plain : IsPlain (unmarked l)
  unmarked_plain = grind (arith, common_steps)

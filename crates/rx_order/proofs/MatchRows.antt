-- Match rows in order: where their patterns stand, and what each row tells.
use Rattle.rx_spec.proofs.Prelude.{rules, ◌≡◌, ℕ, ◌+◌, ◌-◌, ◌*◌, ◌/◌, ◌<◌, ◌≤◌, ◌==◌, nat_lt, nat_le, Bool, true}
use Rattle.rx_spec.proofs.Prelude.{false, if◌then◌else◌, List, [], length, map, take, drop, slice_index, get_or, refl}
use Rattle.rx_spec.proofs.Prelude.{ap, ap₂, sym, ◌∙◌, ⊎_elim, arith, common_steps, concat, range_with_len}
use Rattle.rx_spec.proofs.Prelude.{mul-div_cancel, and_parts, cases_eq, cases_lt, eq-eqb, false≢true, le-ltb, leb-true}
use Rattle.rx_spec.proofs.Prelude.{lt-ltb, ltb-true, ne_eqb, fill_by_all, get_or-map-range_with_len}
use Rattle.rx_spec.proofs.Prelude.{length-map-range_with_len, pow_pos, row_fits, Label, IsTable, Table, is_match}
use Rattle.rx_spec.proofs.Prelude.{is_match_label}
use Rattle.rx_order.proofs.Prelude.{AreJoined, Layout, Special, add-mul, first_id, is_quit_id, label_patterns, last_id}
use Rattle.rx_order.proofs.Prelude.{lists_in, match_count, match_lists, patterns_at, patterns_of, place_in_range}
use Rattle.rx_order.proofs.Prelude.{row_count, slices_from, stride, table_of}
use Rattle.rx_dense.proofs.PatternLists.{patterns_are}
use Rattle.rx_order.proofs.Moved.{factor}
use Rattle.rx_order.proofs.KindRanges.{HasSpecials, ends_quit, from_end, is_between, low_kind, match_id}

-- a label that matches has patterns, and one that neither matches nor quits tells nothing
pub matching_label : (label : Label) → is_match_label label ≡ true → label ≡ Label.Matches (label_patterns label)
matching_label label e = grind (arith, common_steps, false≢true)

pub plain_label : (label : Label) → is_match_label label ≡ false → (label ≡ Label.Quits → ⊥) → label ≡ Label.Plain
plain_label label e no_quit = grind (arith, common_steps, false≢true)

-- rows of a range are counted from its first
pub place_from : (from to width : ℕ) → 0 < width → from ≤ to → (to * width - from * width) / width ≡ to - from
place_from from to width some h = grind (arith, common_steps, mul-div_cancel, add-mul)

-- how many rows a range of ids has
pub range_count : (width from to : ℕ) → 0 < width → 0 < from
    → (if first_id width from to == 0 then 0
    else (last_id width from to - first_id width from to) / width + 1) ≡ to - from
range_count width from to some behind =
    ⊎_elim
    (λ (h : from < to).
    let other : from * width ≡ 0 → ⊥ = λ e.
    absurd (omega (arith, e, row_fits 0 width from width behind (omega arith), some)) in
    rw (lt-ltb from to h, ne_eqb (from * width) 0 other)
    (omega (arith, place_from from (to - 1) width some (omega (arith, h)), h)))
    (λ (h : to ≤ from). rw (le-ltb from to h) (omega (arith, h)))
    (cases_lt from to)

-- dead and quit match nothing
pub low_match : (t : Table) → IsTable t → (row : ℕ) → row ≤ 1 → is_match t row ≡ false
low_match t is row h = grind (arith, common_steps, cases_eq, cases_lt, is.dead_label, is.quit_label)

-- the patterns of all match rows are given, in the order of the rows
pub record HasPatterns (ends : List ℕ) (m : Layout) (lists : List (List ℕ)) : Type 0 where
  pub count : length lists ≡ slice_index ends 3 - 2
  pub slices : m.slices ≡ slices_from 0 lists
  pub pattern_ids : m.pattern_ids ≡ concat lists

module _ {m : Layout} {marked : Bool} {kind_at : ℕ → ℕ} {ends : List ℕ} (s : HasSpecials m marked kind_at ends)
    {lists : List (List ℕ)} (has : HasPatterns ends m lists) where
  abbrev end : ℕ → ℕ
  end kind = slice_index ends kind

  w : 0 < stride m
  w = pow_pos m.stride2

  pub patterns_there : (i : ℕ) → i < length lists → patterns_at m i ≡ get_or lists i []
  patterns_there i h =
      ap₂ (λ (slices ids : List ℕ). take (slice_index slices (2 * i + 1)) (drop (slice_index slices (2 * i)) ids))
      has.slices has.pattern_ids
      ∙ patterns_are m lists i h

  min_is : 2 < end 3 → m.special.min_match ≡ 2 * stride m
  min_is h = grind (arith, common_steps, s.special, ends_quit s.are, lt-ltb)

  -- which match row lies at a place
  place_is : (place : ℕ) → 2 ≤ place → place < end 3
      → place_in_range m m.special.min_match (place * stride m) ≡ place - 2
  place_is place low high = grind (arith, common_steps, min_is, place_from, w)

  count_is : match_count m ≡ length lists
  count_is =
      ap (λ (x : Special). if x.min_match == 0 then 0 else (x.max_match - x.min_match) / stride m + 1) s.special
      ∙ range_count (stride m) (end 1) (end 3) w (omega (arith, ends_quit s.are))
      ∙ omega (arith, ends_quit s.are, has.count)

  pub lists_are : match_lists m ≡ lists
  lists_are =
      ap (λ n. map (patterns_at m) (range_with_len 0 n)) count_is
      ∙ sym (fill_by_all (patterns_at m) lists (length lists) [] refl (λ k h. sym (patterns_there k h)))

  pub joined : AreJoined m
  joined = grind (arith, common_steps, lists_are)

  -- ---- labels

  quit_id : (place : ℕ) → is_quit_id m.special (place * stride m) ≡ (place == 1)
  quit_id place =
      let quit : m.special.quit ≡ 1 * stride m = omega (arith, ap (λ (x : Special). x.quit) s.special) in
      ⊎_elim
      (λ (e : place ≡ 1).
      let here : place * stride m ≡ m.special.quit = ap (λ p. p * stride m) e ∙ sym quit in
      let other : place * stride m ≡ 0 → ⊥ = λ z. absurd (omega (arith, z, here, quit, w)) in
      rw (eq-eqb _ _ here, ne_eqb _ _ other, eq-eqb place 1 e) refl)
      (λ (ne : place ≡ 1 → ⊥).
      let other : place * stride m ≡ m.special.quit → ⊥ = λ e. ne (factor w place 1 (e ∙ quit)) in
      rw (ne_eqb _ _ other, ne_eqb place 1 ne) refl)
      (cases_eq place 1)

  -- what a row tells at its place
  pub label_at : (place : ℕ) → place < row_count m
      → (table_of m).machine.label place
      ≡ (if place == 1 then Label.Quits
      else (if is_between 1 3 (kind_at place) then Label.Matches (get_or lists (place - 2) []) else Label.Plain))
  label_at place h =
      let i : ℕ = place_in_range m m.special.min_match (place * stride m) in
      ap₂ (λ (b q : Bool). if b then Label.Matches (patterns_at m i) else (if q then Label.Quits else Label.Plain))
      (match_id s place h) (quit_id place)
      ∙ ⊎_elim
      (λ (e : place ≡ 1).
      let low : kind_at place ≡ 1 = low_kind s.are place (omega arith) ∙ e in
      rw (eq-eqb place 1 e, le-ltb 1 (kind_at place) (omega (arith, low))) refl)
      (λ (ne : place ≡ 1 → ⊥). rw (ne_eqb place 1 ne) (by_match (is_between 1 3 (kind_at place)) refl))
      (cases_eq place 1)
    where
      by_match : (b : Bool) → is_between 1 3 (kind_at place) ≡ b
          → (if b then Label.Matches (patterns_at m (place_in_range m m.special.min_match (place * stride m)))
          else Label.Plain)
          ≡ (if b then Label.Matches (get_or lists (place - 2) []) else Label.Plain)
      by_match b e =
          search (
            rules,
            and_parts,
            are_to_end,
            ltb-true,
            low_kind,
            s.are,
            cases_lt,
            place_is,
            patterns_there,
            has.count,
          )
        where
          are_to_end : nat_lt place (end 3) ≡ nat_le (kind_at place) 3
          are_to_end = s.are.to_end place 3 h (omega arith)

-- the lists are those of the match rows of another table
module _ {m : Layout} {marked : Bool} {kind_at : ℕ → ℕ} {ends : List ℕ} (s : HasSpecials m marked kind_at ends)
    (old : Layout) (rows : List ℕ) (has : HasPatterns ends m (lists_in old rows ends)) (is : IsTable (table_of old))
  where
    pub label_of_lists : (place : ℕ) → place < row_count m → slice_index rows place < row_count old
        → (slice_index rows place ≡ 1 → place ≡ 1) → (place ≡ 1 → slice_index rows place ≡ 1)
        → is_between 1 3 (kind_at place) ≡ is_match (table_of old) (slice_index rows place)
        → (table_of m).machine.label place ≡ (table_of old).machine.label (slice_index rows place)
    label_of_lists place h below only quits matches =
        label_at s has place h
        ∙ ⊎_elim
        (λ (one : place ≡ 1).
        rw (eq-eqb place 1 one) (sym (ap (table_of old).machine.label (quits one) ∙ is.quit_label)))
        (λ (ne : place ≡ 1 → ⊥). rw (ne_eqb place 1 ne) (by_match ne (is_between 1 3 (kind_at place)) refl))
        (cases_eq place 1)
      where
        by_match : (place ≡ 1 → ⊥) → (b : Bool) → is_between 1 3 (kind_at place) ≡ b
            → (if b then Label.Matches (get_or (lists_in old rows ends) (place - 2) []) else Label.Plain)
            ≡ (table_of old).machine.label (slice_index rows place)
        by_match ne true e =
            let kinds = and_parts (nat_lt 1 (kind_at place)) (nat_le (kind_at place) 3) e in
            let high = leb-true (slice_index ends 1) place (from_end s.are place 1 h (omega arith) ∙ kinds.0) in
            let low = ltb-true place (slice_index ends 3) (s.are.to_end place 3 h (omega arith) ∙ kinds.1) in
            let two = ends_quit s.are in
            ap Label.Matches (get_or-map-range_with_len (λ place. patterns_of (table_of old) (slice_index rows place))
            (slice_index ends 1) (slice_index ends 3 - slice_index ends 1) (place - 2) place []
            (omega (arith, high, low, two)) (omega (arith, high, two)))
            ∙ sym (matching_label ((table_of old).machine.label (slice_index rows place)) (sym matches ∙ e))
        by_match ne false e =
            sym (plain_label ((table_of old).machine.label (slice_index rows place)) (sym matches ∙ e)
            (λ quit. ne (only (is.quit_only (slice_index rows place) below quit))))

pub lists_count : (old : Layout) (rows ends : List ℕ) → slice_index ends 1 ≡ 2
    → length (lists_in old rows ends) ≡ slice_index ends 3 - 2
lists_count old rows ends two =
    length-map-range_with_len (λ place. patterns_of (table_of old) (slice_index rows place)) (slice_index ends 1)
    (slice_index ends 3 - slice_index ends 1)
    ∙ ap (λ n. slice_index ends 3 - n) two

-- Tables whose rows have ids, as both forms of images keep them: what the special ids say of rows.
use Rattle.rx_spec.proofs.Prelude.{common_steps, ◌≡◌, ℕ, ◌+◌, ◌<◌, ◌≤◌, ◌||◌, not, Bool, true, cond, leb, ltb, eqb}
use Rattle.rx_spec.proofs.Prelude.{List, length, filter, slice_index, refl, ap, ◌∙◌, arith, Option, if◌then◌else◌}
use Rattle.rx_spec.proofs.Prelude.{both_ways, range_with_len, eq-eqb, le-leb, ne_eqb, and-false, Label, Anchored, Table}
use Rattle.rx_spec.proofs.Prelude.{is_match, leaving}
use Rattle.rx_spec.specs.declared.Start.{Start}
use Rattle.rx_lemmas.proofs.Filters.{every_in_range, filter_alike}
use Rattle.rx_dense.specs.declared.special.Special.{Special}
use Rattle.rx_dense.specs.Specials.{is_accel_id, is_match_id, is_quit_id, is_start_id}
use Rattle.rx_dense.specs.Layouts.{context_number, mode_place, start_entries}
use Rattle.rx_image_parts.specs.SpecialIds.{is_named, are_special}
use Rattle.rx_image_parts.proofs.SpecialTests.{label_by, lists_by, matches_by, named_few, no_match, plain_by, quits_by}
use Rattle.rx_image_parts.proofs.SpecialTests.{quits_only_by}

-- ---- start entries

-- the start entry of a mode and a context
abbrev pub start_at : List ℕ → Anchored → Start → ℕ
start_at starts mode start =
    cond (ltb (mode_place mode) (length starts)) (slice_index starts (mode_place mode + context_number start)) 0

-- what holds of dead and of each start entry holds where each mode starts in each context
pub start_is : (starts : List ℕ) (o : Option ℕ) → length starts ≡ start_entries o → (P : ℕ → Type 0) → P 0
    → ((k : ℕ) → k < length starts → P (slice_index starts k))
    → (mode : Anchored) (start : Start) → P (start_at starts mode start)
start_is starts o count P zero each mode start = grind (arith, common_steps)

-- ---- rows and their ids

-- A table with the id of each row, the row of each id, and the id to which a unit leads a row: dead has the id 0, and
-- quit the special one.
pub record IdTable : Type 0 where
  pub table : Table
  pub special : Special
  pub id : ℕ → ℕ
  pub row : ℕ → ℕ
  pub next : ℕ → ℕ → ℕ
  pub patterns : ℕ → List ℕ
  pub two : 2 ≤ table.size
  pub dead : id 0 ≡ 0
  pub quit : id 1 ≡ special.quit
  pub back : (r : ℕ) → r < table.size → row (id r) ≡ r
  pub there : (r unit : ℕ) → r < table.size → unit < 257 → id (row (next r unit)) ≡ next r unit
  pub leads : (r unit : ℕ) → table.machine.next r unit ≡ row (next r unit)
  pub label : (r : ℕ)
      → table.machine.label r ≡ label_by (is_match_id special (id r)) (is_quit_id special (id r)) (patterns r)

-- a label by the two tests
pub labels : (m q : Bool) (ks : List ℕ)
    → (if m then Label.Matches ks else (if q then Label.Quits else Label.Plain)) ≡ label_by m q ks
unfolding label_by
labels m q ks = refl

module _ (t : IdTable) where
  pub dead_is : (row : ℕ) → row < t.table.size → eqb (t.id row) 0 ≡ eqb row 0
  dead_is row h = grind (arith, common_steps)

  pub quit_is : (row : ℕ) → row < t.table.size → eqb (t.id row) t.special.quit ≡ eqb row 1
  quit_is row h = grind (arith, common_steps)

  pub quit_some : 0 < t.special.quit
  quit_some = grind (arith, common_steps)

  -- ---- labels

  -- the patterns of a match row are those of the row
  pub patterns_of : (row : ℕ) (ks : List ℕ) → t.table.machine.label row ≡ Label.Matches ks
      → (is_match_id t.special (t.id row) ≡ true) × (t.patterns row ≡ ks)
  patterns_of row ks e = grind (arith, common_steps, lists_by)

  pub quit_only : (row : ℕ) → row < t.table.size → t.table.machine.label row ≡ Label.Quits → row ≡ 1
  quit_only row h e = grind (arith, common_steps, quits_only_by)

  -- ---- special rows

  -- a named row is dead, quit, or in a range
  pub named_is : (row : ℕ) → row < t.table.size → is_named t.special (t.id row)
      ≡ (eqb row 0 || eqb row 1 || is_match t.table row || is_accel_id t.special (t.id row)
      || is_start_id t.special (t.id row))
  named_is row h = grind (arith, common_steps, matches_by)

  module _ (test : are_special t.special ≡ true) where
    pub dead_label : t.table.machine.label 0 ≡ Label.Plain
    dead_label =
        t.label 0
        ∙ plain_by (is_match_id t.special (t.id 0)) (is_quit_id t.special (t.id 0)) (t.patterns 0)
        (no_match t.special test (t.id 0) (omega arith)) (rw (eq-eqb _ _ t.dead) (and-false _))

    pub quit_label : t.table.machine.label 1 ≡ Label.Quits
    quit_label =
        t.label 1
        ∙ quits_by (is_match_id t.special (t.id 1)) (is_quit_id t.special (t.id 1)) (t.patterns 1)
        (no_match t.special test (t.id 1) (omega arith))
        (rw (eq-eqb _ _ t.quit, ne_eqb (t.id 1) 0 (λ e. absurd (omega (arith, quit_some)))) refl)

    -- the rows up to the greatest special one are those that are named, where no other is among them
    pub special_is : (row : ℕ) → row < t.table.size
        → (leb (t.id row) t.special.max ≡ true → is_named t.special (t.id row) ≡ true)
        → leb (t.id row) t.special.max
        ≡ (eqb row 0 || eqb row 1 || is_match t.table row || is_accel_id t.special (t.id row)
        || is_start_id t.special (t.id row))
    special_is row h named =
        both_ways (leb (t.id row) t.special.max) (is_named t.special (t.id row)) named
        (λ e. le-leb (t.id row) t.special.max (named_few t.special test (t.id row) e))
        ∙ named_is row h

  -- ---- bytes that leave a row

  -- by ids as by rows
  pub leaving_same : (row : ℕ) → row < t.table.size
      → filter (λ byte. not (eqb (t.next row byte) (t.id row))) (range_with_len 0 256) ≡ leaving t.table row
  leaving_same row h =
      filter_alike (λ byte. not (eqb (t.next row byte) (t.id row)))
      (λ byte. not (eqb (t.table.machine.next row byte) row)) (range_with_len 0 256)
      (every_in_range
      (λ byte. not (eqb (t.next row byte) (t.id row)) ≡ not (eqb (t.table.machine.next row byte) row)) 0 256
      (λ byte low high. ap not (grind (arith, common_steps))))

-- Rows that are marked by their ids: those in which searches start, and those that match.
use Rattle.rx_spec.proofs.Prelude.{rules, common_steps, ◌≡◌, ℕ, ◌+◌, ◌*◌, ◌/◌, ◌%◌, ◌<◌, ◌==◌, ◌||◌, Bool}
use Rattle.rx_spec.proofs.Prelude.{true, false, List, [], ◌∷◌, if◌then◌else◌, nat_lt, length}
use Rattle.rx_spec.proofs.Prelude.{slice_index, slice_set, get_or, All, refl, ap, sym, ◌∙◌, ⊎_elim, arith, list_any}
use Rattle.rx_spec.proofs.Prelude.{Contains}
use Rattle.rx_spec.proofs.Prelude.{and_parts, cases_eq, eq-eqb, false≢true, lt-ltb, ne_eqb}
use Rattle.rx_spec.proofs.Prelude.{get_or_default, get_or-set_same, get_or-set_other, All-head, All-tail}
use Rattle.rx_spec.proofs.Prelude.{pow_pos, or-false, or-true, mul-div_cancel, Label, IsSound}
use Rattle.rx_spec.proofs.Prelude.{is_match}
use Rattle.std.proofs.lemmas.Bool.{cases_Bool}
use Rattle.rx_order.proofs.Prelude.{Layout, context_number, is_start_row, length-set}
use Rattle.rx_order.proofs.Prelude.{machine_of, mode_place, quotient, row-below, row_count, stride, table_of}
use Rattle.rx_base.specs.Search.{mode_of}
use Rattle.rx_dense.specs.Layouts.{IsRowId}
use Rattle.rx_dense.proofs.MatchMaps.{any_contains}
use Rattle.rx_dense.proofs.StartNumbers.{context_at, context_at-number, mode_at, mode_at-place}

-- ---- rows of ids, noted one after another

-- The rows of the ids that were passed are noted, and what is left are ids.
pub record AreNoted (l : Layout) (flags : List Bool) (left all : List ℕ) : Type 0 where
  pub count : length flags ≡ row_count l
  pub noted : (row : ℕ) → row < row_count l
      → (get_or flags row false || list_any (λ id. id == row * stride l) left)
      ≡ list_any (λ id. id == row * stride l) all
  pub ids : All (IsRowId l) left

pub none_noted : (l : Layout) (flags : List Bool) (all : List ℕ) → length flags ≡ row_count l
    → ((row : ℕ) → row < row_count l → get_or flags row false ≡ false) → All (IsRowId l) all → AreNoted l flags all all
none_noted l flags all count none ids = grind (arith, common_steps)

pub all_noted : {l : Layout} {flags : List Bool} {all : List ℕ} → AreNoted l flags [] all → (row : ℕ)
    → row < row_count l → get_or flags row false ≡ list_any (λ id. id == row * stride l) all
all_noted {flags = flags} noted row h = sym (or-false (get_or flags row false)) ∙ noted.noted row h

or_moved : (now was own others : Bool) → now ≡ (was || own) → (now || others) ≡ (was || (own || others))
or_moved now was own others e = grind (arith, common_steps, cases_Bool)

module _ {l : Layout} {flags : List Bool} {id : ℕ} {left all : List ℕ} (noted : AreNoted l flags (id ∷ left) all) where
  id_is : IsRowId l id
  id_is = All-head (IsRowId l) id left noted.ids

  pub id_row : id / stride l < length flags
  id_row = omega (arith, row-below l id id_is, noted.count)

  flag_is : (row : ℕ)
      → get_or (slice_set flags (id / stride l) true) row false
      ≡ (get_or flags row false || (id == row * stride l))
  flag_is row =
      let whole = quotient id (stride l) id_is.whole in
      ⊎_elim
      (λ (e : row ≡ id / stride l).
      let own : id ≡ row * stride l = sym whole ∙ ap (λ r. r * stride l) (sym e) in
      ap (λ r. get_or (slice_set flags (id / stride l) true) r false) e
      ∙ get_or-set_same flags (id / stride l) true false id_row
      ∙ sym (ap (λ b. get_or flags row false || b) (eq-eqb id (row * stride l) own) ∙ or-true (get_or flags row false)))
      (λ (ne : row ≡ id / stride l → ⊥).
      let other : id ≡ row * stride l → ⊥ = λ e.
      absurd (ne (sym (ap (λ x. x / stride l) e ∙ mul-div_cancel row (pow_pos l.stride2)))) in
      get_or-set_other flags (id / stride l) row true false ne
      ∙ sym (ap (λ b. get_or flags row false || b) (ne_eqb id (row * stride l) other)
      ∙ or-false (get_or flags row false)))
      (cases_eq row (id / stride l))

  pub one_noted : AreNoted l (slice_set flags (id / stride l) true) left all
  one_noted = record {
    count = length-set flags (id / stride l) true ∙ noted.count;
    noted = λ row h.
        or_moved (get_or (slice_set flags (id / stride l) true) row false) (get_or flags row false)
        (id == row * stride l) (list_any (λ id. id == row * stride l) left) (flag_is row)
        ∙ noted.noted row h;
    ids = All-tail (IsRowId l) id left noted.ids;
  }

-- ---- no search starts in a row that tells something

pub start_row_plain : (l : Layout) → IsSound (table_of l) → (row : ℕ) → is_start_row l row ≡ true
    → (table_of l).machine.label row ≡ Label.Plain
start_row_plain l sound row e =
    found (any_contains (row * stride l) l.starts (and_parts (nat_lt 1 row) (list_any (λ id. id == row * stride l)
    l.starts) e).1)
  where
    found : Contains l.starts (row * stride l) → (table_of l).machine.label row ≡ Label.Plain
    found c =
        let k : ℕ = c.0 in
        let mode = mode_of (mode_at (k / 6)) in
        let start = context_at (k % 6) in
        let number : k % 6 < 6 = omega arith in
        let place : mode_place mode + context_number start ≡ k =
        omega (arith, mode_at-place (k / 6), context_at-number (k % 6) number) in
        let has : mode_place mode < length l.starts = omega (arith, mode_at-place (k / 6), c.1) in
        let id : slice_index l.starts k ≡ row * stride l = get_or_default l.starts k 0 (row * stride l) c.1 ∙ c.2 in
        let entry : (machine_of l).entry mode start ≡ row =
        ap (λ b. (if b then slice_index l.starts (mode_place mode + context_number start) else 0) / stride l)
        (lt-ltb (mode_place mode) (length l.starts) has)
        ∙ ap (λ k. slice_index l.starts k / stride l) place ∙ ap (λ id. id / stride l) id
        ∙ mul-div_cancel row (pow_pos l.stride2) in
        ap (table_of l).machine.label (sym entry) ∙ sound.starts_plain mode start

-- no search starts in a match row
pub match_starts : (l : Layout) → IsSound (table_of l) → (row : ℕ) → is_match (table_of l) row ≡ true
    → is_start_row l row ≡ false
match_starts l sound row e = by_start (is_start_row l row) refl
  where
    by_start : (b : Bool) → is_start_row l row ≡ b → b ≡ false
    by_start b h = search (rules, false≢true, start_row_plain)

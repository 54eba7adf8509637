-- Labels and their numbers, one row after another.
use Rattle.rx_spec.proofs.Prelude.{common_steps, ◌≡◌, ◌≢◌, ℕ, zero, suc, ◌<◌, ◌≤◌, ◌+◌, ◌⊎◌, ⊎_elim, Some, List, []}
use Rattle.rx_spec.proofs.Prelude.{◌∷◌, ◌++◌, Bool, true, if◌then◌else◌, length, length-append, sym, ◌∙◌, arith}
use Rattle.rx_spec.proofs.Prelude.{cases_eq, cases_lt, get_or_push, get_or_append_left, slice_get_within}
use Rattle.rx_spec.proofs.Prelude.{get_or_from_slice_get, AllPairs, slice_get, slice_index, Label, Table, IsTable}
use Rattle.rx_spec.proofs.Prelude.{is_match_label}
use Rattle.rx_minimize.proofs.Prelude.{AddsLabel, AddsPatterns, AreByLabel, HasNumber}
use Rattle.rx_search.specs.Labels.{label_patterns}

-- ---- what lists have stays there

get_push : {X : Type 0} (xs : List X) (y : X) (k : ℕ) (x : X) → slice_get xs k ≡ Some x
    → slice_get (xs ++ y ∷ []) k ≡ Some x
get_push [] y k x e = absurd cc
get_push (z ∷ xs) y zero x e = e
get_push (z ∷ xs) y (suc k) x e = get_push xs y k x e

number_push : (lists : List (List ℕ)) (patterns : List ℕ) (label : Label) (number : ℕ) → HasNumber lists label number
    → HasNumber (lists ++ patterns ∷ []) label number
number_push lists patterns label number h = grind (arith, common_steps, get_push)

number_kept : (old new : List (List ℕ)) (added : Label) → AddsPatterns old added new → (label : Label) (number : ℕ)
    → HasNumber old label number → HasNumber new label number
number_kept old new added e label number h = grind (arith, common_steps, number_push)

-- ---- the rows up to one

pub record AreLabelled (t : Table) (row : ℕ) (lists : List (List ℕ)) (labels : List ℕ) : Type 0 where
  pub count : length labels ≡ row
  pub few : (length lists ≡ 0) ⊎ (length lists + 2 ≤ row)
  pub has_number : (x : ℕ) → x < row → HasNumber lists (t.machine.label x) (slice_index labels x)
  pub below : (x : ℕ) → x < row → slice_index labels x ≤ x

-- match rows stand behind quit
match_row : {t : Table} → IsTable t → (row : ℕ) (ks : List ℕ) → t.machine.label row ≡ Label.Matches ks → 2 ≤ row
match_row is row ks e = grind (arith, common_steps, cases_eq, cases_lt)

few_more : {t : Table} → IsTable t → (row : ℕ) (old new : List (List ℕ)) (label : Label) → t.machine.label row ≡ label
    → AddsPatterns old label new → (length old ≡ 0) ⊎ (length old + 2 ≤ row)
    → (length new ≡ 0) ⊎ (length new + 2 ≤ row + 1)
few_more is row old new label l e h = grind (arith, common_steps, match_row, length-append, cases_eq)

number_below : {t : Table} → IsTable t → (row : ℕ) (new : List (List ℕ)) (label : Label) (number : ℕ)
    → t.machine.label row ≡ label → HasNumber new label number → (length new ≡ 0) ⊎ (length new + 2 ≤ row + 1)
    → number ≤ row
number_below is row new label number l e few = grind (arith, common_steps, cases_eq, slice_get_within)

pub one_labelled : {t : Table} → IsTable t → {row : ℕ} {old new : List (List ℕ)} {labels : List ℕ} (number : ℕ)
    → AreLabelled t row old labels → AddsLabel old (t.machine.label row) number new
    → AreLabelled t (row + 1) new (labels ++ number ∷ [])
one_labelled {t} is {row} {old} {new} {labels} number h adds =
    grind (
      arith,
      common_steps,
      few_more,
      get_or_push,
      get_or_append_left,
      length-append,
      number_kept,
      cases_eq,
      number_below,
    )

-- ---- all rows

module _ (lists : List (List ℕ)) (distinct : AllPairs (λ key other. key ≢ other) lists) where
  one_label : (a b : Label) (number : ℕ) → HasNumber lists a number → HasNumber lists b number → a ≡ b
  one_label a b number h k = grind (arith, common_steps, get_or_from_slice_get)

  one_place : (i j : ℕ) (ks : List ℕ) → slice_get lists i ≡ Some ks → slice_get lists j ≡ Some ks → i ≡ j
  one_place i j ks at there =
      let same = get_or_from_slice_get lists i ks [] at ∙ sym (get_or_from_slice_get lists j ks [] there) in
      let li = slice_get_within lists i ks at in
      let lj = slice_get_within lists j ks there in
      ⊎_elim (λ (e : i ≡ j). e)
      (λ (ne : i ≡ j → ⊥).
      absurd (⊎_elim (λ (lt : i < j). distinct i j [] lt lj same)
      (λ (ge : j ≤ i). distinct j i [] (omega (arith, ge, ne)) li (sym same)) (cases_lt i j)))
      (cases_eq i j)

  one_number : (label : Label) (n m : ℕ) → HasNumber lists label n → HasNumber lists label m → n ≡ m
  one_number label n m h k = grind (arith, common_steps, one_place)

  pub all_labelled : (t : Table) (labels : List ℕ) → AreLabelled t t.size lists labels → AreByLabel t labels
  all_labelled t labels h x y lx ly = grind (arith, common_steps, one_label, one_number)

-- ---- one row's label

-- a list is among others, or is added to them
pub record IsInterned (old new : List (List ℕ)) (key : List ℕ) (id : ℕ) : Type 0 where
  pub is_new : Bool
  pub keys : new ≡ (if is_new then old ++ key ∷ [] else old)
  pub there : slice_get new id ≡ Some key

-- it gets a number of those that there are then
pub interned_below : {old new : List (List ℕ)} {key : List ℕ} {id : ℕ} → IsInterned old new key id → id ≤ length old
interned_below {old} {new} {key} {id} h = grind (arith, common_steps, slice_get_within, length-append)

pub match_added : {old new : List (List ℕ)} {key : List ℕ} {id : ℕ} → IsInterned old new key id → (label : Label)
    → is_match_label label ≡ true → key ≡ label_patterns label → AddsLabel old label (2 + id) new
match_added h label e k = grind (arith, common_steps)

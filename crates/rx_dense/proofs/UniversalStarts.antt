-- Universal starts, as ids and as rows.
use Rattle.rx_spec.proofs.Prelude.{common_steps, ◌≡◌, ℕ, ◌/◌, ◌<◌, ◌≤◌, ◌==◌, Bool, true, false, Some, None, List, []}
use Rattle.rx_spec.proofs.Prelude.{◌∷◌, if◌then◌else◌, length, refl, ap, ◌∙◌, ⊎_elim, arith, list_all, cases_lt, lt-ltb}
use Rattle.rx_spec.proofs.Prelude.{le-ltb, Anchored, has_anchored, has_unanchored}
use Rattle.rx_spec.specs.Contexts.{all_starts}
use Rattle.rx_spec.specs.declared.Start.{Start}
use Rattle.rx_dense.specs.Builder.{HasUniversalStarts, common_start, with_universal_starts}
use Rattle.rx_dense.specs.Layouts.{Layout, IsRowId, IsShaped, is_row_id, machine_of, mode_place, start_id, stride}
use Rattle.rx_dense.specs.Layouts.{table_of, universal_row}
use Rattle.rx_dense.proofs.Rows.{start_is_row}
use Rattle.rx_dense.proofs.Shaped.{zero_id}

-- two ids are one exactly where their rows are
same_row : (l : Layout) (x y : ℕ) → IsRowId l x → IsRowId l y → (x == y) ≡ (x / stride l == y / stride l)
same_row l x y x_is y_is = grind (arith, common_steps)

-- a test of all starts goes by the tests of each
list_all_same : {X : Type 0} (p q : X → Bool) → ((x : X) → p x ≡ q x) → (xs : List X) → list_all p xs ≡ list_all q xs
list_all_same p q same [] = refl
list_all_same p q same (x ∷ xs) = grind (arith, common_steps)

module _ (l : Layout) (h : IsShaped l) where
  start_id_is : (mode : Anchored) (start : Start) → IsRowId l (start_id l mode start)
  start_id_is mode start =
      ⊎_elim
      (λ (has : mode_place mode < length l.starts).
      rw (lt-ltb _ _ has) (start_is_row l h.starts mode start has))
      (λ (none : length l.starts ≤ mode_place mode).
      rw (le-ltb _ _ none) (zero_id l (let two = h.rows.two in omega arith)))
      (cases_lt (mode_place mode) (length l.starts))

  valid : (id : ℕ) → IsRowId l id → is_row_id l id ≡ true
  valid id is = grind (arith, common_steps, lt-ltb)

  row_if : (mode : Anchored) (b : Bool)
      → universal_row l (if b then Some (start_id l mode Start.NonWordByte) else None)
      ≡ (if b then Some (start_id l mode Start.NonWordByte / stride l) else None)
  row_if mode true =
      ap
      (λ b. if b then Some (start_id l mode Start.NonWordByte / stride l) else None)
      (valid _ (start_id_is mode Start.NonWordByte))
  row_if mode false = refl

  kept : (b : Bool) (mode : Anchored)
      → universal_row l (if b then common_start (start_id l mode) else None)
      ≡ (if b then common_start ((machine_of l).entry mode) else None)
  kept true mode =
      let first = start_id l mode Start.NonWordByte in
      let same_ids : Start → Bool = λ start. start_id l mode start == first in
      let same_rows : Start → Bool = λ start. start_id l mode start / stride l == first / stride l in
      let agree = λ (start : Start).
      same_row l (start_id l mode start) first (start_id_is mode start) (start_id_is mode Start.NonWordByte) in
      ap (λ b. universal_row l (if b then Some first else None)) (list_all_same same_ids same_rows agree all_starts)
      ∙ row_if mode (list_all same_rows all_starts)
  kept false mode = refl

  pub universal_starts : HasUniversalStarts (table_of (with_universal_starts l))
  universal_starts = record {
    unanchored = kept (has_unanchored l.start_kind) Anchored.No;
    anchored = kept (has_anchored l.start_kind) Anchored.Yes;
  }

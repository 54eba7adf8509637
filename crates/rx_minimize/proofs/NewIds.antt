-- The ids that rows get: those of the first rows of their blocks, at their new places.
use Rattle.rx_spec.proofs.Prelude.{common_steps, ◌≡◌, ℕ, zero, suc, ◌+◌, ◌-◌, ◌*◌, ◌/◌, ◌<◌, ◌≤◌, All, List, length}
use Rattle.rx_spec.proofs.Prelude.{map, ap, ◌∙◌, subst, ⊎_elim, arith, slice_index, cases_lt, get_or-map, length-map}
use Rattle.rx_spec.proofs.Prelude.{All-from_get_or, div-add-mod', length-take-le, mul-div_cancel, mul-le, pow_pos}
use Rattle.rx_spec.proofs.Prelude.{max_id, sym}
use Rattle.rx_search.specs.Starts.{IsId}
use Rattle.rx_dense.specs.Builder.{with_rows}
use Rattle.rx_dense.specs.Layouts.{Layout, ids_of, row_count, stride}
use Rattle.rx_dense.proofs.Rows.{IsId-row_id, IsRowId-row, id_few}
use Rattle.rx_minimize.specs.Blocks.{AreFirsts, AreRenumbered}
use Rattle.rx_minimize.specs.Partitioned.{IsPartitioned}

-- a row of rising ones is at least its place
pub place_least : {size : ℕ} {rows : List ℕ} → AreFirsts size rows → (place : ℕ) → place < length rows
    → place ≤ slice_index rows place
place_least firsts zero h = omega arith
place_least {size} {rows} firsts (suc place) h =
    omega (arith, place_least firsts place (omega (arith, h)), firsts.rising place (suc place) (omega arith) h)

-- there are no more first rows than rows
pub firsts_few : {size : ℕ} {firsts : List ℕ} → AreFirsts size firsts → length firsts ≤ size
firsts_few {size} {firsts} are =
    ⊎_elim
    (λ (some : 0 < length firsts).
    (let last : length firsts - 1 < length firsts = omega arith in
    let g : length firsts ≤ size =
    omega (arith, place_least are (length firsts - 1) last, are.below (length firsts - 1) last) in
    g))
    (λ (none : length firsts ≤ 0). (let g : length firsts ≤ size = omega arith in g))
    (cases_lt 0 (length firsts))

-- where a list of first rows ends there is an id, or the end of the table
pub ends_few : (l : Layout) → length l.words ≤ max_id + stride l → {firsts : List ℕ} → AreFirsts (row_count l) firsts
    → (end : ℕ) → end ≤ length firsts → end * stride l ≤ max_id + stride l
ends_few l few are end h = grind (arith, common_steps, firsts_few, mul-le, div-add-mod')

module _ {l : Layout} {blocks numbers firsts : List ℕ} (are : IsPartitioned l blocks)
    (renumbered : AreRenumbered blocks numbers firsts) where
  pub are_firsts : AreFirsts (row_count l) firsts
  are_firsts = subst (λ n. AreFirsts n firsts) are.are_blocks.count renumbered.are_firsts

  pub numbers_few : All (λ number. number * stride l ≤ max_id) numbers
  numbers_few =
      All-from_get_or (λ number. number * stride l ≤ max_id) numbers 0
      (λ row h.
      let below = renumbered.below row (omega (arith, renumbered.count)) in
      id_few l are.rows (slice_index numbers row * stride l)
      (IsRowId-row l (slice_index numbers row) (omega (arith, below, firsts_few are_firsts))))

  -- as many rows are left
  left : row_count (with_rows l (length firsts)) ≡ length firsts
  left =
      let fits = mul-le (length firsts) (stride l) (row_count l) (stride l) (firsts_few are_firsts) (omega arith) in
      let whole = div-add-mod' (length l.words) (stride l) in
      ap (λ n. n / stride l) (length-take-le (length firsts * stride l) l.words (omega (arith, fits, whole)))
      ∙ mul-div_cancel (length firsts) (pow_pos l.stride2)

  -- all rows get ids of these
  pub new_ids : (ids : List ℕ) → ids ≡ map (λ number. number * stride l) numbers
      → All (IsId (ids_of (with_rows l (length firsts)))) ids
  new_ids ids is =
      let count = ap length is ∙ length-map numbers (λ number. number * stride l) in
      let m = with_rows l (length firsts) in
      All-from_get_or (IsId (ids_of m)) ids 0
      (λ row h.
      let there : row < length numbers = omega (arith, count) in
      let below = renumbered.below row (omega (arith, there, renumbered.count)) in
      let at = ap (λ (xs : List ℕ). slice_index xs row) is
      ∙ get_or-map (λ number. number * stride l) numbers row 0 0 there in
      subst (IsId (ids_of m)) (sym at)
      (IsId-row_id m _ (IsRowId-row m (slice_index numbers row) (omega (arith, below, left)))))

  pub ids_count : (ids : List ℕ) → ids ≡ map (λ number. number * stride l) numbers → length ids ≡ row_count l
  ids_count ids is =
      ap length is ∙ length-map numbers (λ number. number * stride l) ∙ renumbered.count ∙ are.are_blocks.count

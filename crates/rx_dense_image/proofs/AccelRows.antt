-- The rows of a range of accelerated rows.
use Rattle.rx_spec.proofs.Prelude.{common_steps, ◌≡◌, ℕ, ◌+◌, ◌-◌, ◌*◌, ◌/◌, ◌%◌, ◌<◌, ◌≤◌, Bool, true, false, eqb}
use Rattle.rx_spec.proofs.Prelude.{cond, ap, ◌∙◌, arith, inl, inr, and_parts, eqb-true, ltb-true, cases_Bool, pow_pos}
use Rattle.rx_spec.proofs.Prelude.{mul-mod_left, ◌⊎◌}
use Rattle.rx_dense.specs.Layouts.{Layout, IsRowId, is_row_id, stride}
use Rattle.rx_dense.proofs.Rows.{multiple_within}
use Rattle.rx_dense_image.specs.Rows.{AreReadRows, rows_of}
use Rattle.rx_dense_image.specs.Closing.{are_special_rows, range_len}

-- a number that passes the test is the id of a row
pub row_id_of : (l : Layout) → AreReadRows (rows_of l) → (id : ℕ) → is_row_id l id ≡ true → IsRowId l id
row_id_of l read id test = grind (arith, common_steps, and_parts, eqb-true, multiple_within, ltb-true)

-- a row of a range
times_whole : (a i s : ℕ) → a % s ≡ 0 → 0 < s → (a + i * s) % s ≡ 0
times_whole a i s whole some = ap (λ (n : ℕ). n % s) (omega arith) ∙ mul-mod_left (a / s + i) s

up_to : (d i s : ℕ) → 0 < s → i < d / s + 1 → i * s ≤ d
up_to d i s some lt = grind arith

pub range_row : (l : Layout) → AreReadRows (rows_of l) → (first last i : ℕ) → IsRowId l first → IsRowId l last
    → i < range_len l first last → IsRowId l (first + i * stride l)
range_row l read first last i is_first is_last lt = choose (cases_Bool (eqb first 0))
  where
    s : ℕ
    s = stride l

    some : 0 < stride l
    some = pow_pos l.stride2

    bounded : i < (last - first) / stride l + 1 → IsRowId l (first + i * stride l)
    bounded h = grind (arith, common_steps, times_whole, up_to)

    choose : ◌⊎◌ (eqb first 0 ≡ true) (eqb first 0 ≡ false) → IsRowId l (first + i * stride l)
    choose (inl none) = grind (arith, common_steps)
    choose (inr there) =
        let e : range_len l first last ≡ (last - first) / stride l + 1 =
        ap (λ (b : Bool). cond b 0 ((last - first) / stride l + 1)) there in
        bounded (omega arith)

-- ---- special rows

-- the ids of special rows are those of rows
pub record AreSpecialRows (l : Layout) : Type 0 where
  pub max : is_row_id l l.special.max ≡ true
  pub quit : l.special.quit ≡ stride l
  pub min_match : is_row_id l l.special.min_match ≡ true
  pub max_match : is_row_id l l.special.max_match ≡ true
  pub min_accel : is_row_id l l.special.min_accel ≡ true
  pub max_accel : is_row_id l l.special.max_accel ≡ true
  pub min_start : is_row_id l l.special.min_start ≡ true
  pub max_start : is_row_id l l.special.max_start ≡ true

pub special_rows : (l : Layout) → are_special_rows l l.special ≡ true → AreSpecialRows l
special_rows l test = grind (arith, common_steps, and_parts)

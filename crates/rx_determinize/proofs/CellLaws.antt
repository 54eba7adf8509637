-- Cells that are set, and rows that are added: to which rows the rows of a table lead then.
use Rattle.rx_spec.proofs.Prelude.{common_steps, ◌≡◌, ◌≢◌, ℕ, ◌+◌, ◌*◌, ◌/◌, ◌<◌, length, get_or, ap, sym, ◌∙◌, arith}
use Rattle.rx_spec.proofs.Prelude.{inl, inr, ◌⊎◌, ◌≤◌, List, ⊎_elim, cases_lt, get_or-set_same, get_or-set_other}
use Rattle.rx_spec.proofs.Prelude.{div-mul-add}
use Rattle.rx_determinize.proofs.Prelude.{AreRows, IsCopied, IsOutside, Layout, column, column_within, machine_of}
use Rattle.rx_determinize.proofs.Prelude.{mul-le-mul_right, multiple_below, row_count, stride, with_next, with_row}

-- two places of rows are one only where the rows and the columns are
pub one_place : (s r c q d : ℕ) → c < s → d < s → r * s + c ≡ q * s + d → (r ≡ q) × (c ≡ d)
one_place s r c q d c_in d_in e =
    let row : r ≡ q = sym (div-mul-add r s c c_in) ∙ ap (λ n. n / s) e ∙ div-mul-add q s d d_in in
    (row, omega (arith, ap (λ n. n * s) row))

module _ (l : Layout) (rows : AreRows l) where
  place_within : (r unit : ℕ) → r < row_count l → unit < 257 → r * stride l + column l unit < length l.words
  place_within r unit within is_unit = grind (arith, common_steps, multiple_below, column_within)

  column_in : (unit : ℕ) → unit < 257 → column l unit < stride l
  column_in unit is_unit = omega (arith, column_within l rows.classes unit is_unit)

  -- a row that is added changes no other
  pub next_more : (r unit : ℕ) → r < row_count l → unit < 257
      → (machine_of (with_row l)).next r unit ≡ (machine_of l).next r unit
  next_more r unit within is_unit = grind (arith, common_steps, place_within)

  module _ (r unit next : ℕ) (within : r < row_count l) (is_unit : unit < 257) where
    -- the units of a column lead where it was set to
    pub next_set : (other : ℕ) → column l other ≡ column l unit
        → (machine_of (with_next l (r * stride l) unit next)).next r other ≡ next / stride l
    next_set other same =
        ap (λ n. n / stride l)
        (ap (λ c. get_or (with_next l (r * stride l) unit next).words (r * stride l + c) 0) same
        ∙ get_or-set_same l.words (r * stride l + column l unit) next 0 (place_within r unit within is_unit))

    -- other columns and other rows stay
    pub next_kept : (q other : ℕ) → other < 257 → (q ≡ r → column l other ≢ column l unit)
        → (machine_of (with_next l (r * stride l) unit next)).next q other ≡ (machine_of l).next q other
    next_kept q other is_other apart =
        ap (λ n. n / stride l)
        (get_or-set_other l.words (r * stride l + column l unit) (q * stride l + column l other) next 0
        (λ e. let one = one_place (stride l) q (column l other) r (column l unit) (column_in other is_other)
        (column_in unit is_unit) e in apart one.0 one.1))

  -- a row that is copied leads where the other one leads, and no further row changes
  module _ (from to : ℕ) {words : List ℕ} (copied : IsCopied (stride l) l.words words (from * stride l) (to * stride l))
    where
      pub next_copied : (unit : ℕ) → unit < 257
          → (machine_of (record l { words = words })).next to unit ≡ (machine_of l).next from unit
      next_copied unit is_unit = ap (λ n. n / stride l) (copied.there (column l unit) (column_in unit is_unit))

      pub next_beside : (row unit : ℕ) → unit < 257 → (row ≡ to → ⊥)
          → (machine_of (record l { words = words })).next row unit ≡ (machine_of l).next row unit
      next_beside row unit is_unit apart =
          ap (λ n. n / stride l) (copied.others (row * stride l + column l unit) (outside (cases_lt row to)))
        where
          outside : (row < to) ⊎ (to ≤ row) → IsOutside (to * stride l) (stride l) (row * stride l + column l unit)
          outside (inl less) =
              let below : (row + 1) * stride l ≤ to * stride l = mul-le-mul_right (stride l) (omega arith) in
              inl (omega (arith, column_in unit is_unit))
          outside (inr past) =
              let above : (to + 1) * stride l ≤ row * stride l =
              mul-le-mul_right (stride l) (⊎_elim (λ (less : to < row). omega arith)
              (λ (under : row ≤ to). absurd (apart (omega arith))) (cases_lt to row)) in
              inr (omega arith)

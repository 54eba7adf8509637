-- The rows of a range of ids, one after another.
use Rattle.rx_spec.proofs.Prelude.{common_steps, ◌≡◌, ℕ, ◌+◌, ◌-◌, ◌*◌, ◌/◌, ◌<◌, ◌≤◌, true, if◌then◌else◌, ap, ap₂}
use Rattle.rx_spec.proofs.Prelude.{sym, ◌∙◌, arith, inl, inr, eq-eqb, ne_eqb, mul-div_cancel, le-div, mul-le, pow_pos}
use Rattle.rx_dense.specs.Specials.{is_in_range}
use Rattle.rx_dense.specs.Layouts.{Layout, place_in_range, row_count, stride}
use Rattle.rx_dense.proofs.Rows.{quotient, row-below}
use Rattle.rx_order.specs.RowOrder.{IsRange}
use Rattle.rx_order.proofs.MatchRows.{place_from}
use Rattle.rx_dense_image.specs.Closing.{range_len}
use Rattle.rx_sparse_build.proofs.WholeSpecial.{within_range}

pub record IsRowAt (l : Layout) (first last i row : ℕ) : Type 0 where
  pub id : row * stride l ≡ first + i * stride l
  pub below : row < row_count l
  pub within : is_in_range first last (row * stride l) ≡ true
  pub place : place_in_range l first (row * stride l) ≡ i

pub range_at : (l : Layout) (first last : ℕ) → IsRange l first last → (i : ℕ) → i < range_len l first last
    → IsRowAt l first last i (first / stride l + i)
range_at l first last (inl (none, last_none)) i lt = grind (arith, common_steps, eq-eqb)
range_at l first last (inr (past, le, is_first, is_last)) i lt =
    let some : 0 < stride l = pow_pos l.stride2 in
    let q : ℕ = first / stride l in
    let p : ℕ = last / stride l in
    let first_is = quotient first (stride l) is_first.whole in
    let last_is = quotient last (stride l) is_last.whole in
    let up = le-div q (p * stride l) (stride l) some (omega (arith, first_is, last_is, le)) in
    let rises : q ≤ p = omega (arith, up, mul-div_cancel p some) in
    let len : range_len l first last ≡ p - q + 1 =
    ap (λ b. if b then 0 else (last - first) / stride l + 1)
    (ne_eqb first 0 (λ e. absurd (omega (arith, past, e))))
    ∙ ap (λ (n : ℕ). n + 1)
    (ap₂ (λ (x y : ℕ). (x - y) / stride l) (sym last_is) (sym first_is) ∙ place_from q p (stride l) some rises) in
    let most = mul-le (q + i) (stride l) p (stride l) (omega (arith, lt, len, rises)) (omega arith) in
    let id : (q + i) * stride l ≡ first + i * stride l = omega (arith, first_is) in
    record {
      id = id;
      below = omega (arith, lt, len, rises, row-below l last is_last);
      within =
          within_range first last ((q + i) * stride l) (omega (arith, id)) (omega (arith, most, last_is))
          (omega (arith, id, past, stride l));
      place =
          ap (λ (x : ℕ). ((q + i) * stride l - x) / stride l) (sym first_is)
          ∙ place_from q (q + i) (stride l) some (omega arith)
          ∙ (omega arith);
    }

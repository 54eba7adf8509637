-- Needles that are compared byte by byte with the bytes on which a row doesn't lead to itself.
use Rattle.rx_spec.proofs.Prelude.{◌≡◌, ◌≢◌, ℕ, ◌<◌, ◌≤◌, true, false, not, eqb, List, length, get_or, slice_index}
use Rattle.rx_spec.proofs.Prelude.{filter, refl, sym, ap, ◌∙◌, range_with_len, bytes_eq, eq-eqb, ne_eqb}
use Rattle.rx_image_parts.proofs.LeavingBytes.{AreMet, all_met, another, too_few}
use Rattle.rx_sparse.specs.Rows.{Row, next_among}
use Rattle.rx_sparse.specs.Layouts.{next_id}
use Rattle.rx_sparse.proofs.RowPlaces.{next_on_byte}
use Rattle.rx_sparse_image.specs.Closing.{leaves, leaving}

pub leaving_is : (classes : List ℕ) (at : ℕ) (row : Row)
    → leaving classes at row ≡ filter (leaves classes at row) (range_with_len 0 256)
unfolding leaving
leaving_is classes at row = refl

module _ (classes : List ℕ) (at : ℕ) (row : Row) where
  module _ (byte next : ℕ) (low : byte < 256) (is : next ≡ next_among row.ranges (slice_index classes byte)) where
    pub leaves_where : (next ≡ at → ⊥) → leaves classes at row byte ≡ true
    leaves_where ne =
        ap not (ne_eqb (next_id classes row byte) at (λ e. ne (is ∙ next_on_byte classes row byte low ∙ e)))

    pub stays_where : next ≡ at → leaves classes at row byte ≡ false
    stays_where e = ap not (eq-eqb (next_id classes row byte) at (sym (is ∙ next_on_byte classes row byte low) ∙ e))

  module _ {needles : List ℕ} {met byte : ℕ} (h : AreMet needles (leaves classes at row) met byte) where
    pub few_leave : byte < 256 → leaves classes at row byte ≡ true → length needles ≤ met
        → false ≡ bytes_eq needles (leaving classes at row)
    few_leave low passes le = sym (ap (bytes_eq needles) (leaving_is classes at row) ∙ too_few h low passes le)

    pub another_leaves : byte < 256 → leaves classes at row byte ≡ true → get_or needles met 0 ≢ byte
        → false ≡ bytes_eq needles (leaving classes at row)
    another_leaves low passes ne = sym (ap (bytes_eq needles) (leaving_is classes at row) ∙ another h low passes ne)

    pub all_leave : byte ≡ 256 → eqb met (length needles) ≡ bytes_eq needles (leaving classes at row)
    all_leave last = all_met h last ∙ sym (ap (bytes_eq needles) (leaving_is classes at row))

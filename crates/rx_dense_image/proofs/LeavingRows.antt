-- Needles that are compared byte by byte with the bytes that leave a row.
use Rattle.rx_spec.proofs.Prelude.{◌≡◌, ◌≢◌, ℕ, ◌<◌, ◌≤◌, true, false, eqb, List, length, get_or, filter, refl, sym, ap}
use Rattle.rx_spec.proofs.Prelude.{◌∙◌, range_with_len, bytes_eq}
use Rattle.rx_dense.specs.Layouts.{Layout}
use Rattle.rx_dense_image.specs.Closing.{leaves, leaving_id}
use Rattle.rx_image_parts.proofs.LeavingBytes.{AreMet, too_few, another, all_met}

pub leaving_is : (l : Layout) (id : ℕ) → leaving_id l id ≡ filter (leaves l id) (range_with_len 0 256)
unfolding leaving_id
leaving_is l id = refl

module _ (l : Layout) (id : ℕ) {needles : List ℕ} {met byte : ℕ} (h : AreMet needles (leaves l id) met byte) where
  pub few_leave : byte < 256 → leaves l id byte ≡ true → length needles ≤ met
      → false ≡ bytes_eq needles (leaving_id l id)
  few_leave lt passes le = sym (ap (bytes_eq needles) (leaving_is l id) ∙ too_few h lt passes le)

  pub another_leaves : byte < 256 → leaves l id byte ≡ true → get_or needles met 0 ≢ byte
      → false ≡ bytes_eq needles (leaving_id l id)
  another_leaves lt passes ne = sym (ap (bytes_eq needles) (leaving_is l id) ∙ another h lt passes ne)

  pub all_leave : byte ≡ 256 → eqb met (length needles) ≡ bytes_eq needles (leaving_id l id)
  all_leave last = all_met h last ∙ sym (ap (bytes_eq needles) (leaving_is l id))

-- Words past the alphabet are cleared, and the rows that were read are as each part says.
use Rattle.rx_spec.proofs.Prelude.{common_steps, ◌≡◌, ℕ, ◌*◌, ◌/◌, ◌%◌, ◌^◌, ◌<◌, ◌≤◌, List, length, map, sym, ap}
use Rattle.rx_spec.proofs.Prelude.{subst, ◌∙◌, arith, range_with_len, mul-div_cancel, mul-mod_left}
use Rattle.rx_spec.proofs.Prelude.{get_or-map-range_with_len, length-map-range_with_len, pow_pos}
use Rattle.rx_base.specs.ByteClasses.{AreClasses, alphabet_len}
use Rattle.rx_dense_image.specs.Rows.{ArePadded, AreReadRows, IsStride, Rows, cleared}

-- words that were cleared
pub padded : (stride alphabet count : ℕ) (word : ℕ → ℕ) (words : List ℕ)
    → words ≡ map (λ k. cleared stride alphabet k (word k)) (range_with_len 0 count) → ArePadded stride alphabet words
padded stride alphabet count word words is =
    grind (arith, common_steps, length-map-range_with_len, get_or-map-range_with_len)

-- so many rows of a stride
pub record AreCounted (rows : Rows) (bytes : List ℕ) (count stride : ℕ) : Type 0 where
  pub classes : rows.classes ≡ bytes
  pub of_stride : IsStride bytes rows.stride2 stride
  pub few : count < 2 ^ 32
  pub len : length rows.words ≡ count * stride
  pub padded : ArePadded (2 ^ rows.stride2) (alphabet_len rows.classes) rows.words

pub read_rows : {rows : Rows} {bytes : List ℕ} {count stride : ℕ} → AreCounted rows bytes count stride
    → AreReadRows rows
read_rows {rows} {bytes} {count} {stride} h =
    let s : ℕ = 2 ^ rows.stride2 in
    let len : length rows.words ≡ count * s = h.len ∙ ap (λ (n : ℕ). count * n) h.of_stride.value in
    let rows_len : length rows.words / s ≡ count =
    ap (λ (n : ℕ). n / s) len ∙ mul-div_cancel count (pow_pos rows.stride2) in
    record {
      classes = subst AreClasses (sym h.classes) h.of_stride.rise;
      some = h.of_stride.some;
      exponent = h.of_stride.exponent;
      fits =
          subst (λ (n : ℕ). alphabet_len rows.classes ≤ n) h.of_stride.value
          (subst (λ (t : List ℕ). alphabet_len t ≤ stride) (sym h.classes) h.of_stride.fits);
      whole = ap (λ (n : ℕ). n % s) len ∙ mul-mod_left count s;
      few = subst (λ (n : ℕ). n < 2 ^ 32) (sym rows_len) h.few;
      padded = h.padded;
    }

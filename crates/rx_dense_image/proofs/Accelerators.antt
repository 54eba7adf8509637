-- Accelerators, one after another.
use Rattle.rx_spec.proofs.Prelude.{common_steps, ◌≡◌, ℕ, ◌+◌, ◌-◌, List, [], ◌∷◌, ◌++◌, length, take, drop, map, sym}
use Rattle.rx_spec.proofs.Prelude.{ap, ◌∙◌, arith, range_with_len, length-map-range_with_len, map-range_with_len_more}
use Rattle.rx_dense_image.specs.Marks.{needles_in}

-- all bytes from a place on
pub all_from : (bytes : List ℕ) (at : ℕ) → take (length bytes - at) (drop at bytes) ≡ drop at bytes
all_from bytes at = grind (arith, common_steps)

pub one_accel_more : (bytes : List ℕ) (i : ℕ) (accels : List (List ℕ))
    → accels ≡ map (needles_in bytes) (range_with_len 0 i)
    → accels ++ (needles_in bytes i ∷ []) ≡ map (needles_in bytes) (range_with_len 0 (i + 1))
one_accel_more bytes i accels is =
    ap (λ (t : List (List ℕ)). t ++ (needles_in bytes i ∷ [])) is
    ∙ sym (map-range_with_len_more (needles_in bytes) 0 i i (omega arith))

pub accels_len : (bytes : List ℕ) (i : ℕ) (accels : List (List ℕ))
    → accels ≡ map (needles_in bytes) (range_with_len 0 i) → length accels ≡ i
accels_len bytes i accels is = ap length is ∙ length-map-range_with_len (needles_in bytes) 0 i

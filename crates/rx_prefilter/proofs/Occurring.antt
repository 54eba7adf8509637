-- Where a literal occurs in a piece of a haystack, and where it was read in the haystack.
use Rattle.rx_spec.proofs.Prelude.{common_steps, ◌≡◌, ℕ, ◌+◌, ◌-◌, ◌<◌, ◌≤◌, List, None, Some, length, take, drop}
use Rattle.rx_spec.proofs.Prelude.{slice_index, ap, sym, ◌∙◌, length-drop, length-take-le, arith, get_or-drop}
use Rattle.rx_spec.proofs.Prelude.{get_or-take}
use Rattle.memchr.specs.Find.{FindsNeedle, OccursAt}
use Rattle.rx_prefilter.proofs.Begun.{Begun}

module _ (hay literal : List ℕ) {from end : ℕ} (order : from ≤ end) (fits : end ≤ length hay) where
  abbrev pub piece : List ℕ
  piece = take (end - from) (drop from hay)

  pub piece_len : length piece ≡ end - from
  piece_len = length-take-le (end - from) (drop from hay) (rw (length-drop from hay) (omega arith))

  pub piece_at : (k : ℕ) → k < end - from → slice_index piece k ≡ slice_index hay (from + k)
  piece_at k h = get_or-take (end - from) (drop from hay) k 0 h ∙ get_or-drop from hay k 0

  -- where all of it was read last, it occurs
  occurs : (to : ℕ) → to ≤ end → Begun hay literal from to (length literal)
      → OccursAt piece literal (to - length literal - from)
  occurs to high b = grind (arith, common_steps)

  -- it ends nowhere where it doesn't occur
  pub ends_nowhere : FindsNeedle piece literal 0 None → (to : ℕ) → to ≤ end
      → Begun hay literal from to (length literal) → ⊥
  ends_nowhere none to high b =
      let few = b.few in
      let n = piece_len in
      none (to - length literal - from) (omega arith) (omega (arith, few)) (occurs to high b)

  module _ {place : ℕ} (found : FindsNeedle piece literal 0 (Some place)) where
    -- nor before the end of the first place
    pub ends_later : (to : ℕ) → to < from + place + length literal → Begun hay literal from to (length literal) → ⊥
    ends_later to low b =
        let few = b.few in
        let room = found.1.fits in
        let n = piece_len in
        found.0.before (to - length literal - from) (omega arith) (omega arith)
        (occurs to (omega (arith, low)) b)

    pub in_span : from + place + length literal ≤ end
    in_span = let room = found.1.fits in let n = piece_len in omega arith

    -- all but its last byte were read before that end
    pub all_but_one : 0 < length literal
        → Begun hay literal from (from + place + length literal - 1) (length literal - 1)
    all_but_one some = record {
      few = omega arith;
      reads = λ i h.
          let there : from + place + length literal - 1 - (length literal - 1) + i ≡ from + (place + i) =
          omega arith in
          let room = in_span in
          ap (slice_index hay) there ∙ sym (piece_at (place + i) (omega arith))
          ∙ found.1.reads i (omega arith);
    }

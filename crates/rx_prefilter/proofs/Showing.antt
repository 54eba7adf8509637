-- Literals in the part of a window that belongs to a span.
use Rattle.std.proofs.lemmas.Grind.{common_steps}
use Rattle.rx_spec.proofs.Prelude.{◌≡◌, ℕ, ◌+◌, ◌-◌, ◌<◌, ◌≤◌, min, List, length, take, drop, Option, Some, None, sym}
use Rattle.rx_spec.proofs.Prelude.{subst, arith, refl, false, is_some}
use Rattle.memchr.specs.Find.{FindsNeedle, OccursAt}
use Rattle.rx_prefilter.proofs.Occurring.{piece_len}
use Rattle.rx_prefilter.specs.Seeking.{IsFirstShown}

pub not_some : (known : Option ℕ) → is_some known ≡ false → known ≡ None
not_some None e = refl
not_some (Some place) e = absurd (cc)

-- the part of a window at an offset that belongs to a span
pub record IsPart (window : List ℕ) (base start end low high : ℕ) : Type 0 where
  pub high_is : high ≡ min (end - base) (length window)
  pub low_is : low ≡ min (start - base) high

module _ {window : List ℕ} {base start end low high : ℕ} (part : IsPart window base start end low high) where
  order : low ≤ high
  order = let low_is = part.low_is in omega arith

  fits : high ≤ length window
  fits = let high_is = part.high_is in omega arith

module _ {window literal : List ℕ} {base start end low high : ℕ} (part : IsPart window base start end low high)
    (some : 0 < length literal) where
  -- what occurs in the window in this part of it occurs in the part
  in_part : (at : ℕ) → start ≤ base + at → at + length literal ≤ high → OccursAt window literal at
      → OccursAt (take (high - low) (drop low window)) literal (at - low)
  in_part at first within o =
      grind (arith, common_steps)

  from_part : (place : ℕ) → OccursAt (take (high - low) (drop low window)) literal place
      → OccursAt window literal (low + place)
  from_part place o =
      grind (arith, common_steps)

  pub none_shown : FindsNeedle (take (high - low) (drop low window)) literal 0 None
      → IsFirstShown window literal base start end None
  none_shown none at first last o =
      let low_is = part.low_is in
      let high_is = part.high_is in
      let n = piece_len window literal (order part) (fits part) in
      let within : at - base + length literal ≤ high = omega arith in
      none (at - base - low) (omega arith) (omega arith)
      (in_part (at - base) (omega arith) within o.1)

  pub first_shown : (place : ℕ) → FindsNeedle (take (high - low) (drop low window)) literal 0 (Some place)
      → IsFirstShown window literal base start end (Some (base + low + place))
  first_shown place is =
      let low_is = part.low_is in
      let high_is = part.high_is in
      let n = piece_len window literal (order part) (fits part) in
      let within = is.1.fits in
      let there : base + low + place - base ≡ low + place = omega arith in (
        record {
          low = omega arith;
          high = omega arith;
          before = λ at first h o.
              let before = o.0 in
              is.0.before (at - base - low) (omega arith) (omega (arith, h, before, low_is))
              (in_part (at - base) (omega arith) (omega (arith, h)) o.1);
        },
        (omega arith, subst (OccursAt window literal) (sym there) (from_part place is.1)),
      )

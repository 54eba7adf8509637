-- Kinds of rows, labels and ranges of ids, by the tests that tell them.
use Rattle.rx_spec.proofs.Prelude.{common_steps, ◌≡◌, ◌≢◌, ℕ, ◌≤◌, Bool, true, false, ◌||◌, List, refl, arith}
use Rattle.rx_spec.proofs.Prelude.{if◌then◌else◌, cases_eq, or-true, Label}
use Rattle.rx_order.proofs.KindNumbers.{at_most, high_kind}
use Rattle.rx_image_parts.specs.SpecialIds.{begins_after}

-- ---- labels

-- a plain row neither matches nor quits
pub plain_matches : (m q : Bool) (ks : List ℕ)
    → (if m then Label.Matches ks else (if q then Label.Quits else Label.Plain)) ≡ Label.Plain → m ≡ true → ⊥
plain_matches true q ks e h = cc
plain_matches false q ks e h = cc

pub plain_quits : (m q : Bool) (ks : List ℕ)
    → (if m then Label.Matches ks else (if q then Label.Quits else Label.Plain)) ≡ Label.Plain → q ≡ true → ⊥
plain_quits true q ks e h = cc
plain_quits false true ks e h = cc
plain_quits false false ks e h = cc

-- ---- ranges of ids

-- one that holds is enough
pub or_last : (a b : Bool) → (a || b || true) ≡ true
or_last true b = refl
or_last false true = refl
or_last false false = refl

-- one range begins no sooner than another where that holds of two that have rows
pub after_of : (first other : ℕ) → (first ≢ 0 → other ≢ 0 → other ≤ first) → begins_after first other ≡ true
after_of first other h = grind (arith, common_steps, cases_eq, or-true, at_most, or_last)

-- ---- kinds of rows behind quit: those up to 3 are of match rows, and those up to 5 of match rows and accelerated ones

pub low_matches : (m a s : Bool) → high_kind m a s ≤ 3 → m ≡ true
low_matches true a s h = refl
low_matches false true true h = absurd (omega (arith, h))
low_matches false true false h = absurd (omega (arith, h))
low_matches false false true h = absurd (omega (arith, h))
low_matches false false false h = absurd (omega (arith, h))

pub matches_low : (m a s : Bool) → m ≡ true → high_kind m a s ≤ 3
matches_low true true s e = omega arith
matches_low true false s e = omega arith
matches_low false a s e = absurd cc

pub accelerated_low : (m a s : Bool) → a ≡ true → high_kind m a s ≤ 5
accelerated_low true true s e = omega arith
accelerated_low false true true e = omega arith
accelerated_low false true false e = omega arith
accelerated_low m false s e = absurd cc

pub low_accelerated : (m a s : Bool) → m ≡ false → high_kind m a s ≤ 5 → a ≡ true
low_accelerated m true s e h = refl
low_accelerated true false s e h = absurd cc
low_accelerated false false true e h = absurd (omega (arith, h))
low_accelerated false false false e h = absurd (omega (arith, h))

-- Places of patterns that both tables refuse: they are refused alike where those without an anchor are.
use Rattle.rx_spec.proofs.Prelude.{common_steps, ℕ, ◌≡◌, ◌+◌, ◌<◌, max, Bool, true, false, Option, Some, None, Err}
use Rattle.rx_spec.proofs.Prelude.{List, if◌then◌else◌, refl, arith, IfSome, Anchored, StartError, Table}
use Rattle.rx_equal.specs.Evidence.{RowPair, AreMet}
use Rattle.rx_equal.specs.Pairs.{AreRefused}
use Rattle.rx_equal.specs.Partings.{row_or}
use Rattle.rx_equal.specs.Places.{Meet, MeetMode, Suffice, mode_at}
use Rattle.rx_equal.proofs.Meets.{all_met, beside_met}

-- what a place answers, by whether its byte quits and whether its mode has starts
abbrev mode_part : Bool → Anchored → Option StartError
mode_part supported mode = if supported then None else Some (StartError.UnsupportedAnchored mode)

abbrev byte_part : Bool → ℕ → Bool → Anchored → Option StartError
byte_part quits byte supported mode = if quits then Some (StartError.Quit byte) else mode_part supported mode

unsupported : (v : Bool) (mode : Anchored) (row : ℕ) (error : StartError) → row_or (mode_part v mode) row ≡ Err error
    → v ≡ false
unsupported true mode row error e = absurd (cc)
unsupported false mode row error e = refl

-- bytes quit alike where their places are met
quits_met : (pairs : List RowPair) (byte x y : ℕ) (mode : Anchored) (b d v w : Bool)
    → AreMet pairs (row_or (byte_part b byte v mode) x) (row_or (byte_part d byte w mode) y) → b ≡ d
quits_met pairs byte x y mode true true v w m = refl
quits_met pairs byte x y mode false false v w m = refl
quits_met pairs byte x y mode true false v true m = absurd m
quits_met pairs byte x y mode true false v false m = absurd (cc)
quits_met pairs byte x y mode false true true w m = absurd m
quits_met pairs byte x y mode false true false w m = absurd (cc)

-- two unsupported modes are refused alike
refused_met : (pairs : List RowPair) (byte x y : ℕ) (mode : Anchored) (b d v w : Bool) → b ≡ d → v ≡ false
    → w ≡ false → AreMet pairs (row_or (byte_part b byte v mode) x) (row_or (byte_part d byte w mode) y)
refused_met pairs byte x y mode true true v w same e f = refl
refused_met pairs byte x y mode false false false false same e f = refl
refused_met pairs byte x y mode _ _ _ _ same e f = absurd (cc)

module _ (t u : Table) (refused : AreRefused t u (record { beside = None; mode = Anchored.Pattern 0 })) where
  pattern_met : (pairs : List RowPair) → MeetMode t u pairs Anchored.No → (k : ℕ) (beside : Option ℕ)
      → IfSome beside (λ byte. byte < 256)
      → Meet t u pairs (record { beside = beside; mode = Anchored.Pattern k })
  pattern_met pairs plain k None h = grind (arith, common_steps)
  pattern_met pairs plain k (Some byte) h = grind (arith, common_steps, refused_met, quits_met)

  by_mode : (pairs : List RowPair) → ((m : ℕ) → m < 2 → MeetMode t u pairs (mode_at m)) → (mode : Anchored)
      (beside : Option ℕ) → IfSome beside (λ byte. byte < 256)
      → Meet t u pairs (record { beside = beside; mode = mode })
  by_mode pairs each Anchored.No beside h = beside_met t u pairs Anchored.No (each 0 (omega arith)) beside h
  by_mode pairs each Anchored.Yes beside h = beside_met t u pairs Anchored.Yes (each 1 (omega arith)) beside h
  by_mode pairs each (Anchored.Pattern k) beside h = pattern_met pairs (each 0 (omega arith)) k beside h

  pub two_suffice : Suffice t u 2
  two_suffice = grind (arith, common_steps, by_mode)

pub all_suffice : (t u : Table) (modes : ℕ) → modes ≡ max t.pattern_len u.pattern_len + 3 → Suffice t u modes
all_suffice t u modes e = grind (arith, common_steps, all_met)

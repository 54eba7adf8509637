-- A table after each step of a build.
use Rattle.std.specs.Prelude.{ℕ, ◌≡◌, ◌<◌, ◌&&◌, Bool, true, false, length}
use Rattle.rx_spec.specs.Builds.{Build, built_modes}
use Rattle.rx_spec.specs.Labels.{Gives}
use Rattle.rx_spec.specs.Power.{IsPower}
use Rattle.rx_dense.specs.Layouts.{Layout, row_count, table_of}
use Rattle.rx_order.specs.RowOrder.{IsInOrder, IsPlain, AreJoined, accel_count, is_start_row, is_skippable}
use Rattle.rx_minimize.specs.Minimized.{AreReachedRows}
use Rattle.rx_build.specs.Built.{AreApart, AreLeftOut}

-- what was done to it since it was determinized
pub record Stage : Type 0 where
  pub minimize : Bool
  pub mark_starts : Bool
  pub accelerate : Bool

pub record IsMade (b : Build) (s : Stage) (begun l : Layout) : Type 0 where
  pub gives : Gives (table_of l) b
  pub reached : AreReachedRows (built_modes b) (table_of l)
  pub power : s.minimize ≡ false → IsPower (table_of l) b
  pub apart : s.minimize ≡ true → AreApart l
  pub left_out : AreLeftOut b l
  pub in_order : IsInOrder l
  pub plain : s.accelerate ≡ false → IsPlain l
  pub joined : AreJoined l
  pub accelerated : (row : ℕ) → row < row_count l
      → (table_of l).is_accelerated row ≡ (s.accelerate && is_skippable (table_of l) row)
  pub counted : length l.accels ≡ accel_count l
  pub marked : (row : ℕ) → row < row_count l → (table_of l).is_start row ≡ (s.mark_starts && is_start_row l row)
  pub rest : l ≡ record begun {
    words = l.words;
    starts = l.starts;
    slices = l.slices;
    pattern_ids = l.pattern_ids;
    special = l.special;
    accels = l.accels;
  }

-- just determinized, minimized or not, its start rows marked or not
abbrev pub determinized : Stage
determinized = record { minimize = false; mark_starts = true; accelerate = false }

abbrev pub minimized : Bool → Stage
minimized joined = record { minimize = joined; mark_starts = true; accelerate = false }

abbrev pub marked_as : Bool → Bool → Stage
marked_as joined marked = record { minimize = joined; mark_starts = marked; accelerate = false }

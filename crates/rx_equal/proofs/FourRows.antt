-- The tables of the examples: they are sound, and which of their pairs of rows are closed.
use Rattle.rx_spec.proofs.Prelude.{common_steps, ℕ, ◌≡◌, ◌<◌, ◌==◌, ◌&&◌, Bool, true, false, if◌then◌else◌, Option}
use Rattle.rx_spec.proofs.Prelude.{Some, None, List, [], ◌∷◌, refl, arith, eqb-true, nat_lt, All, Contains, contains}
use Rattle.rx_spec.proofs.Prelude.{Anchored, Label, label_of, StartError, Table, IsTable, IsSound}
use Rattle.rx_equal.specs.Partings.{answer_at, row_or}
use Rattle.rx_equal.specs.Evidence.{RowPair, AreClosed, AreMet, HaveEqualLabels, next_pair}
use Rattle.rx_equal.specs.Examples.{four_rows, start_of_mode, told_by}

-- a row by whether it is the start and the unit a byte
abbrev next_by : ℕ → Bool → Bool → ℕ
next_by to byte start = if byte && start then to else 0

next_within : (to : ℕ) (byte start : Bool) → to < 4 → next_by to byte start < 4
next_within to byte start h = grind (arith, common_steps)

next_dead : (to : ℕ) (byte : Bool) → next_by to byte false ≡ 0
next_dead to true = refl
next_dead to false = refl

start_within : (mode : Anchored) → start_of_mode mode < 4
start_within Anchored.No = omega arith
start_within _ = omega arith

-- a label by whether its row is quit or the last
abbrev label_by : List ℕ → Bool → Bool → Label
label_by told quit last = if quit then Label.Quits else (if last then label_of told else Label.Plain)

quits_at : (told : List ℕ) (row : ℕ) (quit last : Bool) → (row == 1) ≡ quit → label_by told quit last ≡ Label.Quits
    → row ≡ 1
quits_at told row true last is e = eqb-true row 1 is
quits_at [] row false true is e = absurd (cc)
quits_at (k ∷ ks) row false true is e = absurd (cc)
quits_at told row false false is e = absurd (cc)

lists_some : (told : List ℕ) (quit last : Bool) → label_by told quit last ≡ Label.Matches [] → ⊥
lists_some told true last e = cc
lists_some [] false true e = cc
lists_some (k ∷ ks) false true e = cc
lists_some told false false e = cc

patterns_below : (n : ℕ) (told : List ℕ) (quit last : Bool) (ks : List ℕ) (k : ℕ) → All (λ j. j < n) told
    → label_by told quit last ≡ Label.Matches ks → Contains ks k → k < n
patterns_below n told true last ks k all e c = absurd (cc)
patterns_below n [] false true ks k all e c = absurd (cc)
patterns_below n (j ∷ js) false true ks k all e c = grind (arith, common_steps)
patterns_below n told false false ks k all e c = absurd (cc)

starts_plain : (told : List ℕ) (mode : Anchored) → told_by told (start_of_mode mode) ≡ Label.Plain
starts_plain told Anchored.No = refl
starts_plain told _ = refl

module _ (n : ℕ) (pattern_starts : Option ℕ) (to : ℕ) (told : List ℕ) (within : to < 4) (all : All (λ k. k < n) told)
  where
    is_table : IsTable (four_rows n pattern_starts to told)
    is_table = record {
      two = omega arith;
      entries = λ mode start. start_within mode;
      universal_unanchored = λ row e. absurd (cc);
      universal_anchored = λ row e. absurd (cc);
      nexts = λ row unit h k. next_within to (nat_lt unit 256) (row == 2) within;
      past_last = λ n k start e h. refl;
      dead_only = λ row h. refl;
      dead_label = refl;
      dead_stays = λ unit h. next_dead to (nat_lt unit 256);
      quit_label = refl;
      quit_ends = λ unit h. next_dead to (nat_lt unit 256);
      quit_only = λ row h e. quits_at told row (row == 1) (row == 3) refl e;
      lists = λ row h e. lists_some told (row == 1) (row == 3) e;
    }

    pub four_rows_sound : IsSound (four_rows n pattern_starts to told)
    four_rows_sound = grind (arith, common_steps, is_table, starts_plain, patterns_below)

-- ---- closed pairs of two tables: their starts, where a byte leads from there, and dead

abbrev pair : ℕ → ℕ → RowPair
pair row other = record { row = row; other = other }

abbrev pub three_pairs : ℕ → ℕ → List RowPair
three_pairs to other = pair 2 2 ∷ pair to other ∷ pair 0 0 ∷ []

by_three : (P : RowPair → Type 0) (to other : ℕ) → P (pair 2 2) → P (pair to other) → P (pair 0 0) → (p : RowPair)
    → Contains (three_pairs to other) p → P p
by_three P to other start byte dead p c = grind (arith, common_steps)

dead_there : (to other : ℕ) → Contains (three_pairs to other) (pair 0 0)
dead_there to other = (2, omega arith, refl)

from_start : (to other : ℕ) (byte : Bool)
    → Contains (three_pairs to other) (pair (next_by to byte true) (next_by other byte true))
from_start to other true = (1, omega arith, refl)
from_start to other false = dead_there to other

from_others : (to other : ℕ) (byte start other_start : Bool) → start ≡ false → other_start ≡ false
    → Contains (three_pairs to other) (pair (next_by to byte start) (next_by other byte other_start))
from_others to other byte start other_start e f = grind (arith, common_steps, dead_there)

module _ (n to other : ℕ) (told others : List ℕ) (labels : told_by told to ≡ told_by others other)
    (on : (to == 2) ≡ false) (other_on : (other == 2) ≡ false) where
  abbrev t : Table
  t = four_rows n None to told

  abbrev u : Table
  u = four_rows n None other others

  nexts : (unit : ℕ) (p : RowPair) → Contains (three_pairs to other) p
      → Contains (three_pairs to other) (next_pair t u p unit)
  nexts unit =
      let byte = nat_lt unit 256 in
      by_three (λ p. Contains (three_pairs to other) (next_pair t u p unit)) to other (from_start to other byte)
      (from_others to other byte (to == 2) (other == 2) on other_on) (from_others to other byte false false refl refl)

  at_byte : (byte : ℕ) (quits : Bool) (mode : Anchored)
      → AreMet (three_pairs to other) (row_or (if quits then Some (StartError.Quit byte) else None) 2)
      (row_or (if quits then Some (StartError.Quit byte) else None) 2)
  at_byte byte true mode = refl
  at_byte byte false mode = (0, omega arith, refl)

  at_pattern : (byte : ℕ) (quits : Bool) (mode : Anchored)
      → AreMet (three_pairs to other)
      (row_or (if quits then Some (StartError.Quit byte) else Some (StartError.UnsupportedAnchored mode)) 0)
      (row_or (if quits then Some (StartError.Quit byte) else Some (StartError.UnsupportedAnchored mode)) 0)
  at_pattern byte true mode = refl
  at_pattern byte false mode = refl

  starts : (beside : Option ℕ) (mode : Anchored)
      → AreMet (three_pairs to other) (answer_at t (record { beside = beside; mode = mode }))
      (answer_at u (record { beside = beside; mode = mode }))
  starts None (Anchored.Pattern k) = refl
  starts (Some byte) Anchored.No = at_byte byte (contains 0 byte) Anchored.No
  starts (Some byte) Anchored.Yes = at_byte byte (contains 0 byte) Anchored.Yes
  starts (Some byte) (Anchored.Pattern k) = at_pattern byte (contains 0 byte) (Anchored.Pattern k)
  starts None _ = (0, omega arith, refl)

  pub three_closed : AreClosed t u (three_pairs to other)
  three_closed = record {
    labels = by_three (HaveEqualLabels t u) to other refl labels refl;
    nexts = λ p unit c h. nexts unit p c;
    starts = λ place is. starts place.beside place.mode;
  }

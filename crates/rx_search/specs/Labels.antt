-- What a label says of its row.
use Rattle.std.specs.Prelude.{◌≡◌, ℕ, ◌<◌, Bool, true, false, List, []}
use Rattle.rx_spec.specs.Machines.{Label}
use Rattle.rx_spec.specs.Tables.{Table}

abbrev pub is_quit_label : Label → Bool
is_quit_label Label.Quits = true
is_quit_label _ = false

abbrev pub is_quit : Table → ℕ → Bool
is_quit t row = is_quit_label (t.machine.label row)

-- the patterns of a match row
abbrev pub label_patterns : Label → List ℕ
label_patterns (Label.Matches ks) = ks
label_patterns _ = []

abbrev pub patterns_of : Table → ℕ → List ℕ
patterns_of t row = label_patterns (t.machine.label row)

-- from the row every byte and the end mark lead to the dead row, so nothing is told behind it
pub record IsFinal (t : Table) (row : ℕ) : Type 0 where
  pub to_dead : (unit : ℕ) → unit < 257 → t.machine.next row unit ≡ 0

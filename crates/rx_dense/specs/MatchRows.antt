-- A table whose match rows are told by a map beside it: it has no lists of patterns yet, and its rows lie in any order.
use Rattle.std.specs.Prelude.{ℕ, ◌≡◌, ◌≢◌, ◌<◌, ◌≤◌, ◌*◌, ◌==◌, if◌then◌else◌, Bool, Option, Some, None, is_some}
use Rattle.std.specs.Prelude.{length, Contains, All, Vec}
use Rattle.std.specs.BTreeMap.{BTreeMap, get}
use Rattle.std.specs.Ordering.{nat_cmp}
use Rattle.std.specs.declared.alloc.Global.{Global}
use Rattle.rx_spec.specs.Machines.{Label}
use Rattle.rx_spec.specs.Queries.{Anchored}
use Rattle.rx_spec.specs.Tables.{Table}
use Rattle.rx_spec.specs.declared.Start.{Start}
use Rattle.rx_dense.specs.Layouts.{Layout, IsRowId, stride}

-- the patterns of match rows, by the rows' ids
abbrev pub Matches : Type 0
Matches = BTreeMap ℕ (Vec ℕ Global)

-- whether they have a row
abbrev pub is_match_row : Layout → Matches → ℕ → Bool
is_match_row l matches row = is_some (get nat_cmp matches (row * stride l))

-- the label that these say for a row: quit for row 1, the row's patterns, and else nothing
abbrev pub label_of_patterns : Option (Vec ℕ Global) → Label
label_of_patterns (Some patterns) = Label.Matches patterns.items
label_of_patterns None = Label.Plain

abbrev pub label_by : Layout → Matches → ℕ → Label
label_by l matches row = if row == 1 then Label.Quits else label_of_patterns (get nat_cmp matches (row * stride l))

-- the match rows are rows behind quit in which no search starts, and each has patterns, which are numbers of patterns
pub record AreMatches (l : Layout) (matches : Matches) : Type 0 where
  pub rows : (id : ℕ) (patterns : Vec ℕ Global) → get nat_cmp matches id ≡ Some patterns
      → IsRowId l id × (stride l < id) × (Contains l.starts id → ⊥)
  pub lists : (id : ℕ) (patterns : Vec ℕ Global) → get nat_cmp matches id ≡ Some patterns
      → (0 < length patterns.items) × All (λ k. k < l.pattern_len) patterns.items

-- what is sound of a table but for its labels: dead and quit lead to dead, no start and no end mark leads to quit,
-- and a pattern past the last starts at dead
pub record IsRouted (t : Table) : Type 0 where
  pub past_last : (n k : ℕ) (start : Start)
      → t.settings.pattern_starts ≡ Some n → n ≤ k → t.machine.entry (Anchored.Pattern k) start ≡ 0
  pub dead_stays : (unit : ℕ) → unit < 257 → t.machine.next 0 unit ≡ 0
  pub quit_ends : (unit : ℕ) → unit < 257 → t.machine.next 1 unit ≡ 0
  pub eoi_goes_on : (row : ℕ) → row < t.size → t.machine.next row 256 ≢ 1
  pub starts : (mode : Anchored) (start : Start) → t.machine.entry mode start ≢ 1

-- What a machine says of words by its labels: two machines that say the same, rows that behave alike or are
-- told apart by a word, and a table as small as can be. This is how Myhill and Nerode see an automaton.
use Rattle.std.specs.Prelude.{ℕ, ◌≡◌, ◌≢◌, ◌<◌, ◌≤◌, if◌then◌else◌, Option, Some, None, List, [], ◌∷◌, ◌++◌}
use Rattle.std.specs.Prelude.{Contains}
use Rattle.rx_spec.specs.Queries.{Anchored}
use Rattle.rx_spec.specs.Machines.{Label, Machine, IsWord, run, Settings}
use Rattle.rx_spec.specs.Starts.{has_unanchored, has_anchored}
use Rattle.rx_spec.specs.Builds.{Build, built_modes, pattern_modes, power}
use Rattle.rx_spec.specs.Tables.{Table, IsTable, row_after}
use Rattle.rx_spec.specs.declared.Start.{Start}

-- the label to which a word leads from a row
abbrev pub label_after : {R : Type 0} → Machine R → R → List ℕ → Label
label_after m row word = m.label (run m.next row word)

-- from each start of some modes every word leads in both machines to equal labels
abbrev pub SameLabels : {R S : Type 0} → (Anchored → Type 0) → Machine R → Machine S → Type 0
SameLabels Starts m n = (mode : Anchored) → Starts mode → (start : Start) (word : List ℕ) → IsWord word
    → label_after m (m.entry mode start) word ≡ label_after n (n.entry mode start) word

-- a table says of every word what a build's powerset machine does, from each start that is built
abbrev pub Gives : Table → Build → Type 0
Gives t b = SameLabels (Contains (built_modes b)) t.machine (power b)

-- the modes for which a table has starts
abbrev pub pattern_start_modes : Option ℕ → List Anchored
pattern_start_modes None = []
pattern_start_modes (Some n) = pattern_modes n

abbrev pub table_modes : Settings → List Anchored
table_modes s =
    (if has_unanchored s.start_kind then Anchored.No ∷ [] else [])
    ++ (if has_anchored s.start_kind then Anchored.Yes ∷ [] else [])
    ++ pattern_start_modes s.pattern_starts

-- every word leads from both rows to equal labels: the rows are equivalent, in the sense of Nerode
abbrev pub BehaveAlike : Table → ℕ → ℕ → Type 0
BehaveAlike t x y = (word : List ℕ) → IsWord word → label_after t.machine x word ≡ label_after t.machine y word

-- some word leads from the two rows to different labels
pub record AreToldApart (t : Table) (x y : ℕ) : Type 0 where
  pub word : List ℕ
  pub is_word : IsWord word
  pub differ : label_after t.machine x word ≢ label_after t.machine y word

-- a word leads to the row from a start of these modes
pub record IsReachedRow (Starts : Anchored → Type 0) (t : Table) (row : ℕ) : Type 0 where
  pub mode : Anchored
  pub begins : Starts mode
  pub start : Start
  pub word : List ℕ
  pub is_word : IsWord word
  pub leads : row_after t mode start word ≡ row

-- each row but dead and quit is reached, and any two rows are told apart
pub record IsReduced (Starts : Anchored → Type 0) (t : Table) : Type 0 where
  pub reached : (row : ℕ) → 1 < row → row < t.size → IsReachedRow Starts t row
  pub apart : (x y : ℕ) → x < t.size → y < t.size → x ≢ y → AreToldApart t x y

-- Some table of m rows has a machine's labels from some starts, and none of fewer rows has (what Hopcroft's
-- algorithm reaches).
pub record IsLeast {R : Type 0} (Starts : Anchored → Type 0) (m : Machine R) (rows : ℕ) : Type 0 where
  pub table : Table
  pub is_table : IsTable table
  pub same : SameLabels Starts table.machine m
  pub size : table.size ≡ rows
  pub least : (t : Table) → IsTable t → SameLabels Starts t.machine m → rows ≤ t.size

-- the least number of rows of a table that gives a build
abbrev pub IsLeastFor : Build → ℕ → Type 0
IsLeastFor b rows = IsLeast (Contains (built_modes b)) (power b) rows

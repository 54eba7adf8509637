-- A table while states are added, and while the row of one of them is written.
use Rattle.std.specs.Prelude.{ℕ, ◌≡◌, false, ◌<◌, ◌≤◌, ◌+◌, ◌/◌, ◌++◌, ◌⊎◌, true, IfSome, Option, Some, None, List}
use Rattle.std.specs.Prelude.{Bool, Contains, length, slice_get}
use Rattle.rx_spec.specs.Builds.{Node, Running, built_entry, built_modes, next_node, start_node}
use Rattle.rx_spec.specs.Bytes.{contains}
use Rattle.rx_spec.specs.Queries.{Anchored}
use Rattle.rx_spec.specs.States.{State}
use Rattle.rx_spec.specs.declared.Start.{Start}
use Rattle.rx_base.specs.ByteClasses.{alphabet_len}
use Rattle.rx_dense.specs.Layouts.{Layout, IsRowId, context_number, machine_of, mode_place, row_count, start_entries}
use Rattle.rx_dense.specs.Layouts.{stride}
use Rattle.rx_stepper.specs.Stepping.{IsAlone, Stepping, stepped, unit_of}
use Rattle.rx_determinize.specs.Constructions.{IsWrittenOver, Serves, Work, keys_in}
use Rattle.rx_determinize.specs.WorkLists.{IsRowOf, IsWorkList}
use Rattle.rx_determinize.specs.Working.{Keying, Met, states_of, next_in, entry_in}
use Rattle.rx_determinize.specs.declared.construction.Last.{Last}
use Rattle.rx_determinize.specs.declared.construction.Progress.{Progress}

-- The rows of the first states that were met are written, and the first start entries are set; dead and quit lead to
-- dead.
pub record AreWritten (k : Keying) (met : Met) (l : Layout) (set done : ℕ) : Type 0 where
  pub within : done ≤ length met.keys
  pub list : IsWorkList k.build k.state_of (next_in l) met.keys done
  pub starts : (mode : Anchored) (start : Start) → mode_place mode + context_number start < set
      → IsRowOf (states_of k met) (built_entry k.build mode start) (entry_in l mode start)
  pub dead_stays : (unit : ℕ) → unit < 257 → (machine_of l).next 0 unit ≡ 0
  pub quit_ends : (unit : ℕ) → unit < 257 → (machine_of l).next 1 unit ≡ 0

-- a construction that has come so far
pub record IsEntering (w : Work) (l : Layout) (set done : ℕ) : Type 0 where
  pub serves : Serves w l
  pub written : AreWritten (keys_in w l) w.met l set done

-- ---- a row that is found

-- More states were met, and the rows that were there are as they were.
pub record Grows (met : Met) (l : Layout) (after : Met) (m : Layout) : Type 0 where
  pub more : List (List ℕ)
  pub keys : after.keys ≡ met.keys ++ more
  pub classes : m.classes ≡ l.classes
  pub nexts : (row unit : ℕ) → row < row_count l → unit < 257
      → (machine_of m).next row unit ≡ (machine_of l).next row unit
  pub entries : (mode : Anchored) (start : Start) → entry_in m mode start ≡ entry_in l mode start

-- the row of a node, which is a new one where its state wasn't met before
pub record FindsRow (w : Work) (l : Layout) (node : Node) (v : Work) (m : Layout) (id : ℕ) : Type 0 where
  pub same : v ≡ record w { met = v.met }
  pub over : IsWrittenOver l m
  pub grows : Grows w.met l v.met m
  pub serves : Serves v m
  pub is_row : IsRowOf (states_of (keys_in v m) v.met) node (id / stride m)
  pub is_id : IsRowId m id

-- ---- start entries

-- a table has an entry for each mode and context, with the patterns of the NFA or without
pub record HasEntries (patterns : ℕ) (l : Layout) : Type 0 where
  pub count : length l.starts ≡ start_entries l.pattern_starts
  pub own : IfSome l.pattern_starts (λ n. n ≡ patterns)

-- searches of a mode start at a row of the NFA, or at none
pub record StartsAt (w : Work) (l : Layout) (mode : Anchored) (row : Option ℕ) : Type 0 where
  pub entry : (start : Start) → built_entry (keys_in w l).build mode start ≡ start_node w.stepping.nfa row start
  pub built : IfSome row (λ _. Contains (built_modes (keys_in w l).build) mode)

-- ---- a row that is written

-- the row of a state at a place, which leads where the state does by the columns that are ready
pub record IsFilling (k : Keying) (met : Met) (l : Layout) (place : ℕ) (state : State) (ready : ℕ → Type 0) : Type 0
  where
    pub key : List ℕ
    pub here : slice_get met.keys place ≡ Some key
    pub stands : k.state_of key ≡ state
    pub cells : (c : ℕ) → c < alphabet_len l.classes → ready c
        → IsRowOf (states_of k met) (next_node k.build (Running state) (unit_of l.classes c))
        ((machine_of l).next (place + 2) (unit_of l.classes c))

-- the row of the state that a column leads to
pub record IsStepped (w : Work) (l : Layout) (column id : ℕ) : Type 0 where
  pub column_in : column < alphabet_len l.classes
  pub is_row : IsRowOf (states_of (keys_in w l) w.met) (Running (stepped w.stepping column)) (id / stride l)
  pub is_id : IsRowId l id

-- The columns that are ready: those that were passed, and where the row began as that of a model, also those by which
-- no rows of the state's own go on, but for those of quit bytes.
abbrev pub IsReady : Stepping → Layout → Progress → ℕ → Type 0
IsReady s l at c =
    (c < at.column)
    ⊎ ((at.copied ≡ true) × (contains l.quit (unit_of l.classes c) ≡ false) × IsAlone s c)

-- A state is stepped column by column. The column that was stepped last led to a row that is remembered.
pub record IsStepping (w : Work) (l : Layout) (at : Progress) (last : Last) : Type 0 where
  pub entering : IsEntering w l (length l.starts) at.place
  pub filling : IsFilling (keys_in w l) w.met l at.place w.stepping.current (IsReady w.stepping l at)
  pub stepped_last : IfSome last.column (λ column. IsStepped w l column last.id)

-- no column was passed, and none stepped
abbrev pub begun_at : ℕ → Bool → Progress
begun_at place copied = record { place = place; column = 0; copied = copied }

abbrev pub none_stepped : Last
none_stepped = record { column = None; id = 0 }

-- one column more was passed
abbrev pub next_column : Progress → Progress
next_column at = record { place = at.place; column = at.column + 1; copied = at.copied }

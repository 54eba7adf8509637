-- A table whose rows are the reached states, before the rows move into their order.
use Rattle.std.specs.Prelude.{ℕ, ◌≡◌, ◌<◌, ◌≤◌, ◌+◌, List, length}
use Rattle.std.specs.List.{concat}
use Rattle.rx_spec.specs.Builds.{Build, AreReached, built_entry, next_node, node_label}
use Rattle.rx_spec.specs.Causes.{max_id}
use Rattle.rx_spec.specs.Power.{node_at}
use Rattle.rx_spec.specs.Queries.{Anchored}
use Rattle.rx_spec.specs.States.{State}
use Rattle.rx_spec.specs.declared.Start.{Start}
use Rattle.rx_dense.specs.Builder.{pattern_lists}
use Rattle.rx_dense.specs.Layouts.{Layout, machine_of, row_count, table_of}
use Rattle.rx_dense.specs.MatchRows.{AreMatches, IsRouted, Matches, label_by}

-- Dead, quit and each state that is reached have a row, and the rows lead as their nodes do. What a row tells stands in
-- a map, by the row's id.
pub record HasStates (b : Build) (l : Layout) (matches : Matches) : Type 0 where
  pub states : List State
  pub reached : AreReached b states
  pub size : row_count l ≡ length states + 2
  pub entries : (mode : Anchored) (start : Start)
      → node_at states ((machine_of l).entry mode start) ≡ built_entry b mode start
  pub nexts : (row unit : ℕ) → row < row_count l → unit < 257
      → node_at states ((machine_of l).next row unit) ≡ next_node b (node_at states row) unit
  pub entries_within : (mode : Anchored) (start : Start) → (machine_of l).entry mode start < row_count l
  pub nexts_within : (row unit : ℕ) → row < row_count l → unit < 257 → (machine_of l).next row unit < row_count l
  pub labels : (row : ℕ) → row < row_count l → label_by l matches row ≡ node_label (node_at states row)
  pub are_matches : AreMatches l matches
  pub routed : IsRouted (table_of l)
  pub few_patterns : length (concat (pattern_lists matches)) ≤ max_id

-- Words and start entries were written, and nothing else.
pub record IsStartedOver (old new : Layout) : Type 0 where
  pub rest : new ≡ record old { words = new.words; starts = new.starts }
  pub count : length new.starts ≡ length old.starts

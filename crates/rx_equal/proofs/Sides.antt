-- Two tables side by side, with the ids of their rows.
use Rattle.rx_spec.proofs.Prelude.{ℕ, List, Table}
use Rattle.rx_search.specs.declared.automaton.Automaton.{Ghosts}

pub record Sides : Type 0 where
  pub t : Table
  pub ids : List ℕ
  pub u : Table
  pub others : List ℕ

-- those of two values, by what their types say of them
abbrev pub sides : {A B : Type 0} → Ghosts A → Ghosts B → A → B → Sides
sides a b x y = record { t = a.table x; ids = a.ids x; u = b.table y; others = b.ids y }

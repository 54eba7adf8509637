-- A row with what decides its place: its kind, its rank and its number.
use Rattle.std.specs.Prelude.{ℕ, List, slice_index}
use Rattle.rx_order.specs.declared.order.Ranked.{Ranked}

abbrev pub ranked_row : (kinds ranks : List ℕ) → ℕ → Ranked
ranked_row kinds ranks row = record { kind = slice_index kinds row; rank = slice_index ranks row; number = row }

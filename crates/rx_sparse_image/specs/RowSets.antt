-- The places where rows begin, as a mark for each place.
use Rattle.std.specs.Prelude.{◌≡◌, ℕ, ◌==◌, Bool, true, false, List, get_or, slice_set}
use Rattle.std.specs.List.{list_any}
use Rattle.rx_sparse_image.specs.declared.row_sets.RowSet.{RowSet}

-- a row begins at a place more
abbrev pub marked : List Bool → ℕ → List Bool
marked begins at = slice_set begins at true

abbrev pub begins_at : List Bool → ℕ → Bool
begins_at begins at = get_or begins at false

-- exactly the offsets are marked
abbrev pub Marks : RowSet → List ℕ → Type 0
Marks set offsets =
    (at : ℕ) → begins_at set.begins.items at ≡ list_any (λ offset. offset == at) offsets

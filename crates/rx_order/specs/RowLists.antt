-- A dense table as a list of rows: for each row the ids to which its columns lead.
use Rattle.std.specs.Prelude.{ℕ, ◌+◌, ◌*◌, List, [], map, slice_index}
use Rattle.std.specs.List.{range_with_len}
use Rattle.rx_base.specs.ByteClasses.{alphabet_len}
use Rattle.rx_order.specs.Transitions.{Transitions}
use Rattle.rx_dense.specs.Layouts.{Layout, row_count, stride}

abbrev pub row_ids : Layout → ℕ → List ℕ
row_ids l row =
    map (λ column. slice_index l.words (row * stride l + column)) (range_with_len 0 (alphabet_len l.classes))

abbrev pub transitions_of : Layout → Transitions
transitions_of l = record {
  rows = map (row_ids l) (range_with_len 0 (row_count l));
  starts = l.starts;
  stride2 = l.stride2;
}

-- all that is neither a row nor a start entry
abbrev pub without_rows : Layout → Layout
without_rows l = record l { words = []; starts = [] }

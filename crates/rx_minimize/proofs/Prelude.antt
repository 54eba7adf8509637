-- What proofs take from other modules, in one module.
pub use Rattle.rx_base.specs.ByteClasses.{alphabet_len}
pub use Rattle.rx_dense.proofs.Rows.{IsId-row_id, IsRowId-row, column_within, id_few, multiple_below, row-below}
pub use Rattle.rx_dense.proofs.Rows.{row_of-row}
pub use Rattle.rx_dense.specs.Builder.{AreSwapped, IsMachineRenamed, IsOutside, pattern_lists, renamed, renamed_word}
pub use Rattle.rx_dense.specs.Builder.{slices_from, with_patterns, with_rows}
pub use Rattle.rx_dense.specs.Layouts.{AreRows, AreStarts, Layout, column, ids_of, machine_of, mode_place}
pub use Rattle.rx_dense.specs.Layouts.{place_in_range, row_count, stride, table_of}
pub use Rattle.rx_minimize.specs.Blocks.{AreBlocks, AreFirsts, AreRenumbered}
pub use Rattle.rx_minimize.specs.LabelNumbers.{AddsLabel, AddsPatterns, AreByLabel, HasNumber}
pub use Rattle.rx_minimize.specs.Minimized.{AnyMode, IsMinimized}
pub use Rattle.rx_minimize.specs.Quotient.{AreMovesByColumn, IsQuotient}
pub use Rattle.rx_order.proofs.MatchRows.{HasPatterns, label_of_lists, low_match}
pub use Rattle.rx_order.proofs.Runs.{AreNames, apart, is_sound, no_needles, reached, same}
pub use Rattle.rx_order.specs.ByKind.{HaveMatches, lists_in}
pub use Rattle.rx_order.specs.RowOrder.{AreJoined, IsInOrder, IsOrdered, IsPlain, is_marked, is_start_row, kind_by}
pub use Rattle.rx_order.specs.RowOrder.{kind_of, match_lists}
pub use Rattle.rx_order.specs.SpecialIds.{AreKindEnds, special_ids}
pub use Rattle.rx_search.specs.Starts.{IsId}
pub use Rattle.rx_spec.specs.Labels.{BehaveAlike}
pub use Rattle.std.proofs.lemmas.List.{length-set}

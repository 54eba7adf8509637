-- What proofs take from other modules, in one module.
pub use Rattle.rx_lemmas.proofs.Filters.{every_in_range, filter_alike, filter_within, range_within}
pub use Rattle.rx_base.specs.ByteClasses.{AreClasses, alphabet_len}
pub use Rattle.rx_dense.proofs.Rows.{IsId-row_id, IsRowId-row, column_within, id_at_row, id_few, multiple_below}
pub use Rattle.rx_dense.proofs.Rows.{multiple_within, quotient, row-below, row_of-row, start_is_row, start_within}
pub use Rattle.rx_dense.proofs.Rows.{stride_few}
pub use Rattle.rx_dense.proofs.Shaped.{rows_apart, rows_kept, starts_kept}
pub use Rattle.rx_dense.specs.Builder.{AreSwapped, IsMachineRenamed, IsOutside, pattern_lists, renamed_id, renamed_word}
pub use Rattle.rx_dense.specs.Builder.{slices_from, with_patterns}
pub use Rattle.rx_dense.specs.Layouts.{AreStarts, Layout, column, context_number, ids_of, machine_of, mode_place}
pub use Rattle.rx_dense.specs.Layouts.{patterns_at, place_in_range, row_count, stride, table_of, universal_row}
pub use Rattle.rx_dense.specs.MatchRows.{AreMatches, IsRouted, Matches, is_match_row, label_by, label_of_patterns}
pub use Rattle.rx_dense.specs.Specials.{greatest, is_accel_id, is_in_range, is_match_id, is_quit_id, is_start_id}
pub use Rattle.rx_dense.specs.declared.special.Special.{Special}
pub use Rattle.rx_order.specs.ByKind.{AreByKind, AreKinds, AreRanked, AreSkippable, HaveMatches, lists_in}
unfoldable pub use Rattle.rx_order.specs.ByKind.{leaving_of}
pub use Rattle.rx_order.specs.Examples.{five_ends, five_kinds, last_first, three_renamed, three_rows}
pub use Rattle.rx_order.specs.Moved.{AreMoved, AreUnmoved, IsReordered, LiesAt}
pub use Rattle.rx_order.specs.Ordering.{IsAccelerated, IsShuffled}
pub use Rattle.rx_order.specs.Permuted.{IsPermuted}
pub use Rattle.rx_order.specs.Ranks.{ranked_row}
pub use Rattle.rx_order.specs.Renaming.{Arrangement, Fits, IsArrangement, IsRearranged, IsRenamed, new_id, place_of}
pub use Rattle.rx_order.specs.Renaming.{rearranged}
pub use Rattle.rx_order.specs.RowOrder.{AreJoined, IsInOrder, IsPlain, IsRange, accel_count, are_needles, is_accel_kind}
pub use Rattle.rx_order.specs.RowOrder.{is_marked, is_skippable, is_start_row, kind_by, kind_of, match_count}
pub use Rattle.rx_order.specs.RowOrder.{match_lists}
pub use Rattle.rx_order.specs.SpecialIds.{AreKindEnds, first_id, last_id, special_ids}
pub use Rattle.rx_order.specs.Transitions.{Transitions, with_ids, with_swapped}
pub use Rattle.rx_order.specs.declared.order.Ranked.{Ranked}
pub use Rattle.rx_search.specs.Labels.{label_patterns, patterns_of}
pub use Rattle.rx_search.specs.Starts.{IsId}
pub use Rattle.rx_spec.specs.declared.Start.{Start}
pub use Rattle.std.proofs.Math.Nat.{add-mul, le-mul_of_pos_right}
pub use Rattle.std.proofs.lemmas.List.{drop_all, length-set}
pub use Rattle.std.proofs.lemmas.List.Edits.{Swapped, swap_is, swapped_from_swap}
pub use Rattle.std.proofs.lemmas.List.Sorted.{Contains-permutation, IsNonDecreasingBy-from_sort_by_key}
pub use Rattle.std.proofs.lemmas.List.Sorted.{IsPartitionPoint-from_clause, IsPermutation-map, IsPermutation-refl}
pub use Rattle.std.proofs.lemmas.List.Sorted.{IsPermutation-trans, non_decreasing_from_is_sorted}
pub use Rattle.std.specs.List.Sorted.{IsNonDecreasing, IsNonDecreasingBy, IsPartitionPoint, IsPartitionedBy}

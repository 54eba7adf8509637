-- What proofs take from std and from this crate, in one module: std's notation, types, rules and lemmas, then the
-- definitions.
pub use Rattle.std.proofs.Common.{◌%◌, ◌&&◌, ◌*◌, ◌++◌, ◌+◌, ◌-◌, ◌/◌, ◌<◌, ◌==◌, ◌^◌, ◌||◌, ◌↔◌, ◌∙◌, ◌∷◌, ◌≡◌, ◌≢◌}
pub use Rattle.std.proofs.Common.{◌≤◌, ◌⊎◌, All, Bool, Contains, Err, Global, IfErr, IfOk, IfSome, List, None, Ok}
pub use Rattle.std.proofs.Common.{Option, Result, Some, Vec, [], add-one, ap, append-nil, append_assoc, ap₂, arith}
pub use Rattle.std.proofs.Common.{below_more, bit_and, bit_or, cond, drop, drop-cons, eq-eqb, eqb, eqb-true, false}
pub use Rattle.std.proofs.Common.{filter, find, get_or, get_or-set_other, get_or-set_same, if◌then◌else◌, inl, inr}
pub use Rattle.std.proofs.Common.{is_some, le_refl, leb, length, length-append, length-drop, length-set, length-take}
pub use Rattle.std.proofs.Common.{length-take-le, lit<, ltb, map, map-id, max, min, nat_eq, nat_le, nat_lt, ne_eqb, not}
pub use Rattle.std.proofs.Common.{option_map, refl, replicate, reverse, rules, set, slice_get, slice_index}
pub use Rattle.std.proofs.Common.{slice_index_or, slice_set, subst, suc, sum_by, sym, take, true, true≢false, w32, zero}
pub use Rattle.std.proofs.Common.{ℕ, ⊎_elim}
pub use Rattle.std.proofs.Math.Bool.{and-false, and-true, or-false, or-true, or_assoc}
pub use Rattle.std.proofs.Math.ListN.{drop_of_length-le}
pub use Rattle.std.proofs.Math.Nat.{mod-eq_of_lt, mul-div_cancel, mul-mod_left, pow-le-pow_right, zero-div}
pub use Rattle.std.proofs.Math.Seq.{drop-append_seam, drop-length, take-add, take-append_seam, take-length}
pub use Rattle.std.proofs.lemmas.Bool.{agree_below_at, and_from, and_parts, and_right, cases_Bool, cases_eq, cases_lt}
pub use Rattle.std.proofs.lemmas.Bool.{eqb-false, false_from_ne_true, false≢true, le-leb, le-ltb, leb-false, leb-true}
pub use Rattle.std.proofs.lemmas.Bool.{lt-ltb, ltb-false, ltb-true, not-false, not-true, or_cases, or_left, or_parts}
pub use Rattle.std.proofs.lemmas.Bool.{or_right}
pub use Rattle.std.proofs.lemmas.Bool.Decides.{eqb_tells, nat_tests, when_false}
pub use Rattle.std.proofs.lemmas.Fmt.{decimal_digit}
pub use Rattle.std.proofs.lemmas.Grind.{common_steps, flat_map-append, get_or-set_at}
pub use Rattle.std.proofs.lemmas.List.{drop-drop, drop_at, drop_more, ext_get_or, flat_map_more, get_or-drop}
pub use Rattle.std.proofs.lemmas.List.{get_or-map, get_or-replicate, get_or-take, get_or_append_left, get_or_default}
pub use Rattle.std.proofs.lemmas.List.{get_or_past, get_or_push, length-map, length-replicate, length-reverse}
pub use Rattle.std.proofs.lemmas.List.{length_push, map-append, map-set, nil_from_length, take_all, take_at, take_more}
pub use Rattle.std.proofs.lemmas.List.{take_rest}
pub use Rattle.std.proofs.lemmas.List.Edits.{length-swap}
pub use Rattle.std.proofs.lemmas.List.Elements.{All-append, All-cons, All-contains, All-drop, All-filter}
pub use Rattle.std.proofs.lemmas.List.Elements.{All-from_get_or, All-from_recursion, All-get_or, All-head, All-map}
pub use Rattle.std.proofs.lemmas.List.Elements.{All-nil, All-push, All-tail, All-take, All-weaker}
pub use Rattle.std.proofs.lemmas.List.Elements.{Contains-append_cases, Contains-append_left, Contains-append_right}
pub use Rattle.std.proofs.lemmas.List.Elements.{Contains-get_or, Contains-push, Contains-push_cases, filter-append}
pub use Rattle.std.proofs.lemmas.List.Elements.{recursion_from_All}
pub use Rattle.std.proofs.lemmas.List.Folds.{list_all-map, list_any-append}
pub use Rattle.std.proofs.lemmas.List.FromFn.{fill_by_all, get_or-map-range_with_len, get_or-range_with_len}
pub use Rattle.std.proofs.lemmas.List.FromFn.{length-map-range_with_len, length-range_with_len, map-range_with_len_more}
pub use Rattle.std.proofs.lemmas.List.Kept.{IsStrictlyIncreasing-filter}
pub use Rattle.std.proofs.lemmas.List.Sorted.{All-permutation, IsPermutation-swap, length_permutation}
pub use Rattle.std.proofs.lemmas.List.Splits.{slice_split_none}
pub use Rattle.std.proofs.lemmas.List.Sums.{position_or_len_is, sum_by-cons}
pub use Rattle.std.proofs.lemmas.Nat.{div-add-mod', div-mul-add, le-div, mod-mul-add, mul-le, one_shl, or_lt, pow_pos}
pub use Rattle.std.proofs.lemmas.Nat.{row_fits}
pub use Rattle.std.proofs.lemmas.Option.{get_or_from_slice_get, none-some, same_Some, slice_get-get_or, slice_get-map}
pub use Rattle.std.proofs.lemmas.Option.{slice_get_past, slice_get_within}
pub use Rattle.std.proofs.lemmas.Result.{IfOk-weaker, err_from_is_err_and, on_ok_weaker}
pub use Rattle.std.proofs.lemmas.Simd.{map-map}
pub use Rattle.std.proofs.lemmas.Slice.Eq.{bytes_eq-Decides}
pub use Rattle.std.specs.BTreeMap.{get, is_at, keys}
pub use Rattle.std.specs.Bool.{then_some}
pub use Rattle.std.specs.Borrow.{Bor}
pub use Rattle.std.specs.Cmp.{both_ways}
pub use Rattle.std.specs.Fmt.{decimal}
pub use Rattle.std.specs.Int.{bit_at, w128, w16}
pub use Rattle.std.specs.Io.KnownBytes.{Appends, Consumes, IsAtEnd, Keeps}
pub use Rattle.std.specs.List.{AllByRecursion, concat, flat_map, list_all, list_any, position_or_len, prefix_len}
pub use Rattle.std.specs.List.{range_with_len, slice_split, swap}
unfoldable pub use Rattle.std.specs.List.{IsDistinct}
pub use Rattle.std.specs.List.Sorted.{IsPermutation, IsStrictlyIncreasing}
pub use Rattle.std.specs.Map.{keys_of, values_of}
pub use Rattle.std.specs.Option.{option_and_then, option_copied, option_map_or, option_or, option_to_list}
pub use Rattle.std.specs.Ordering.{is_eq, nat_cmp}
pub use Rattle.std.specs.Prelude.{AllPairs, IsTrue, MatchBool, MatchOption, OnOk, codes, slice_range, unwrap_or}
pub use Rattle.std.specs.Prelude.{vec_capacity}
pub use Rattle.std.specs.Str.{bytes_eq}
pub use Rattle.std.specs.String.{string_bytes}
pub use Rattle.std.specs.Vec.{vec_items}
pub use Rattle.rx_spec.specs.Builds.{AreReached, Build, IsReached, Node, Quit, Running, build_settings, built_entry}
pub use Rattle.rx_spec.specs.Builds.{built_modes, dead, is_dead, is_dead_state, next_node, nfa_start, node_after}
pub use Rattle.rx_spec.specs.Builds.{node_label, power, start_node}
pub use Rattle.rx_spec.specs.Bytes.{AreBytes, all_bytes, between, contains, eoi, only, unit_of}
pub use Rattle.rx_spec.specs.Causes.{BuildCause, BuildFits, Cause, Exceeds, IsSupported, IsUnsupported, id_count, max_id}
pub use Rattle.rx_spec.specs.Classes.{column_by, ends_class, parts, representatives}
unfoldable pub use Rattle.rx_spec.specs.Classes.{class_by, least_exponent}
pub use Rattle.rx_spec.specs.Contexts.{Facts, both, either_of, facts_of, facts_read, holds_read, no_facts, row_reads}
pub use Rattle.rx_spec.specs.Contexts.{start_of_byte, unit_facts}
unfoldable pub use Rattle.rx_spec.specs.Contexts.{facts_kept, start_of}
unfoldable pub use Rattle.rx_spec.specs.Edge.{begins_with_edge, reads_nothing}
pub use Rattle.rx_spec.specs.Ends.{class_ends, further, preferring}
unfoldable pub use Rattle.rx_spec.specs.Ends.{ends, rounds, up_to}
pub use Rattle.rx_spec.specs.Expressions.{Expression, IsBounded, IsLoopSafe}
unfoldable pub use Rattle.rx_spec.specs.Expressions.{depth, min_len, mirror}
pub use Rattle.rx_spec.specs.Found.{admitted, candidate, end_within, found}
unfoldable pub use Rattle.rx_spec.specs.Found.{first_of}
pub use Rattle.rx_spec.specs.HalfSearches.{HalfAnswer, at_label, beside, first_match, first_offset, half_search}
pub use Rattle.rx_spec.specs.HalfSearches.{last_match, match_error, next_offset, span_bytes, unit_offset, units_of}
pub use Rattle.rx_spec.specs.HalfSearches.{whole_walk}
unfoldable pub use Rattle.rx_spec.specs.HalfSearches.{walk}
pub use Rattle.rx_spec.specs.Ids.{AreIds, id_of, row_of}
pub use Rattle.rx_spec.specs.Iterating.{FoundMatches, and_then, is_repeat, iterate, unless_repeat}
unfoldable pub use Rattle.rx_spec.specs.Iterating.{iterate_from}
pub use Rattle.rx_spec.specs.Joining.{Answer, back_from, join, joined_search, match_at, with_end, with_start}
pub use Rattle.rx_spec.specs.Labels.{AreToldApart, IsReachedRow, SameLabels, label_after}
pub use Rattle.rx_spec.specs.Looks.{Reading, after, before, differ, holds_at, is_unicode_word}
pub use Rattle.rx_spec.specs.Machines.{IsWord, Label, Machine, Settings}
unfoldable pub use Rattle.rx_spec.specs.Machines.{label_of, run}
pub use Rattle.rx_spec.specs.Nfas.{Nfa, is_always_start_anchored, lead_in, read_as}
unfoldable pub use Rattle.rx_spec.specs.Nfas.{nfa_of, patterns_from, start_of_all}
pub use Rattle.rx_spec.specs.Overlapping.{Ending, Item, OverlappingMatches, at_item_label, none_left, overlapping}
pub use Rattle.rx_spec.specs.Overlapping.{pattern_items, remaining, whole_overlapping_walk, with_items}
unfoldable pub use Rattle.rx_spec.specs.Overlapping.{overlapping_walk}
pub use Rattle.rx_spec.specs.Power.{IsPower, node_at}
pub use Rattle.rx_spec.specs.Queries.{Anchored, HalfMatch, IsFit, LiesIn, Match, MatchError, Query, in_order}
pub use Rattle.rx_spec.specs.Queries.{is_anchored, is_done, reading}
pub use Rattle.rx_spec.specs.Rows.{Maker, Part, Row, chained, choice, either, loop, repeated, repeated_count, row_to}
pub use Rattle.rx_spec.specs.Rows.{straight}
unfoldable pub use Rattle.rx_spec.specs.Rows.{compile, copies, optional, rows_count}
pub use Rattle.rx_spec.specs.Shallow.{AllNext, IsShallow}
unfoldable pub use Rattle.rx_spec.specs.Shallow.{Short}
pub use Rattle.rx_spec.specs.Sizes.{determinizer_size, label_total, last_id, same_node, sparse_bound, sparse_size}
pub use Rattle.rx_spec.specs.Sizes.{table_size}
unfoldable pub use Rattle.rx_spec.specs.Sizes.{runs_after}
pub use Rattle.rx_spec.specs.Splits.{half_unsplit, is_narrowest, is_split, item_unsplit, narrower, skips_splits}
pub use Rattle.rx_spec.specs.Splits.{split_limit, unless_split}
unfoldable pub use Rattle.rx_spec.specs.Splits.{skip_splits}
pub use Rattle.rx_spec.specs.Starts.{StartError, has_anchored, has_unanchored, mode_error, start_context, start_error}
pub use Rattle.rx_spec.specs.Starts.{start_row, supports}
pub use Rattle.rx_spec.specs.States.{Passing, Standing, State, Tested, closure, cut, dead_state, decided_rows, firsts}
pub use Rattle.rx_spec.specs.States.{holds_before, is_look_row, is_match_row, pattern_of, reach_by, start_state, target}
unfoldable pub use Rattle.rx_spec.specs.States.{fresh, reach, row_at, state_at, step, to_first_match}
pub use Rattle.rx_spec.specs.Tables.{AreSame, IsSound, IsTable, Table, is_match, is_match_label, row_after}
unfoldable pub use Rattle.rx_spec.specs.Tables.{leaving}

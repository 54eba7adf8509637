-- What proofs take from other modules, in one module.
pub use Rattle.rx_refine.specs.Groups.{AreGroups, ArePlacesByKey, kept_group, kept_key, kept_keys, last_where}
pub use Rattle.rx_refine.specs.Keys.{AreNextKeys, TakesAll, next_key, total, waiting_cost, waiting_reads}
pub use Rattle.rx_refine.specs.Layouts.{AreColumns, IsLayout, Layout, next_at}
pub use Rattle.rx_refine.specs.Moves.{AreAlikeByNumber, AreMoves, AreToldApart, AreToldByNumber, AreWithoutGaps}
pub use Rattle.rx_refine.specs.Moves.{BehaveAlike, IsWord, Moves, binary_digits, column, label_after, next_row}
pub use Rattle.rx_refine.specs.Moves.{read_limit, sources}
pub use Rattle.rx_refine.specs.Numbers.{AreNumbers, ArePlacesOf, IsCut, NumbersParts, NumbersRows, how_many_have}
pub use Rattle.rx_refine.specs.Parts.{AddsBlock, ArePermuted, AreTouched, IsPartition, MarksRow, Parts, Refines}
pub use Rattle.rx_refine.specs.Parts.{SplitsBlock, SplitsBy, SplitsByKey, block_of, is_in, is_marked, size_of, swapped}
pub use Rattle.rx_refine.specs.Places.{AreApart, grouped_place, how_many, how_many_below, places_from, places_of}
pub use Rattle.rx_refine.specs.Places.{rank_of}
pub use Rattle.std.proofs.Common.{Bool, Err, IfOk, List, Ok, Result, [], add-zero, ap, append-nil, arith, cond, drop}
pub use Rattle.std.proofs.Common.{eq-eqb, eqb, eqb-true, ext_get_or, false, get_or, get_or-drop, get_or-set_other}
pub use Rattle.std.proofs.Common.{get_or-set_same, get_or-take, inl, inr, le-leb, le_trans, leb, length, length-drop}
pub use Rattle.std.proofs.Common.{length-set, length-take, lt-ltb, lt_of_le_of_lt, ltb, mul-le-mul_right, mul-zero}
pub use Rattle.std.proofs.Common.{ne_eqb, pow_pos, refl, rules, set, slice_index_or, subst, suc, sym, take, take_all}
pub use Rattle.std.proofs.Common.{true, true≢false, zero, ℕ, ◌%◌, ◌&&◌, ◌*◌, ◌++◌, ◌+◌, ◌-◌, ◌/◌, ◌<◌, ◌^◌, ◌||◌, ◌∙◌}
pub use Rattle.std.proofs.Common.{◌∷◌, ◌≡◌, ◌≤◌, ◌⊎◌}
pub use Rattle.std.proofs.Math.Numerals.{suc-eq-add-one}
pub use Rattle.std.proofs.lemmas.Bool.{and_from, cases_Bool, cases_eq, cases_lt, cases_order, cond-false, cond-true}
pub use Rattle.std.proofs.lemmas.Bool.{lt-leb}
pub use Rattle.std.proofs.lemmas.Grind.{common_steps}
pub use Rattle.std.proofs.lemmas.Int.Digits.{length-digits_of-le, length-digits_of_step}
pub use Rattle.std.proofs.lemmas.List.{drop_all, get_or-append_right, get_or_append_left, get_or_default, get_or_past}
pub use Rattle.std.proofs.lemmas.List.{get_or_push, get_or_read, length-append, length_push, set-get_or, with_items_is}
pub use Rattle.std.proofs.lemmas.List.Elements.{All-contains, All-nil, Contains-append_left, Contains-get_or}
pub use Rattle.std.proofs.lemmas.List.Elements.{Contains-push}
pub use Rattle.std.proofs.lemmas.List.Folds.{list_any_at, list_any_kept, list_any_more}
pub use Rattle.std.proofs.lemmas.List.Sums.{count_by-le-length, sum_by-cons, sum_by-take-le, sum_by_more}
pub use Rattle.std.proofs.lemmas.List.Sums.{sum_by_more_le}
pub use Rattle.std.proofs.lemmas.Map.Views.{Contains-from_any}
pub use Rattle.std.proofs.lemmas.Result.{on_ok_weaker}
pub use Rattle.std.specs.List.{All, Contains, flat_map, list_any, slice_range, sum_by}

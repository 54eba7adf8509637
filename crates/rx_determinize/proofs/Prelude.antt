-- What proofs take from other modules, in one module.
pub use Rattle.rx_lemmas.proofs.ByteSets.{contains-empty}
pub use Rattle.rx_lemmas.proofs.Words.{IsWord-append, IsWord-cons, IsWord-head, IsWord-nil, IsWord-tail, run-append}
pub use Rattle.rx_lemmas.proofs.Words.{run-cons, run-nil, run-within}
pub use Rattle.rx_base.proofs.Classes.{class_by-alike, ends_of-class}
pub use Rattle.rx_base.specs.ByteClasses.{AreClasses, alphabet_len, ends_of}
pub use Rattle.rx_base.specs.Search.{mode_of}
pub use Rattle.rx_base.specs.Unit.{unit_number}
pub use Rattle.rx_expr.specs.declared.build_error.BuildErrorKind.{BuildErrorKind}
pub use Rattle.rx_dense.proofs.Rows.{IsId-row_id, column_within, multiple_below, no_more}
pub use Rattle.rx_dense.proofs.Shaped.{rows_kept, rows_set, shaped_initial, zero_at, zero_id}
pub use Rattle.rx_dense.specs.Builder.{Beginning, IsCopied, IsOutside, initial, pattern_lists, with_next, with_row}
pub use Rattle.rx_dense.specs.Builder.{with_start}
pub use Rattle.rx_dense.proofs.StartNumbers.{context_at-number}
pub use Rattle.rx_dense.specs.MatchRows.{AreMatches, IsRouted, Matches, label_by, label_of_patterns}
pub use Rattle.rx_dense.specs.Layouts.{AreRows, IsRowId, Layout, column, context_number, ids_of, machine_of, mode_place}
pub use Rattle.rx_dense.specs.Layouts.{row_count, start_entries, stride, table_of}
pub use Rattle.rx_determinize.specs.Adding.{Adds, CanAdd, IsFull, IsWithin, Passes}
pub use Rattle.rx_determinize.specs.Building.{HasStates, IsStartedOver}
pub use Rattle.rx_determinize.specs.Constructions.{AreUnits, Continues, Extends, IsAnother, IsRefusal}
pub use Rattle.rx_determinize.specs.Constructions.{IsWrittenOver, Serves, Work, keys_in, work_of}
pub use Rattle.rx_determinize.specs.Begun.{IsBegunWith, build_in, classes_of, limits_of}
pub use Rattle.rx_determinize.specs.Filling.{AreWritten, FindsRow, Grows, HasEntries, IsEntering, IsFilling, IsReady}
pub use Rattle.rx_determinize.specs.Filling.{IsStepped, IsStepping, StartsAt, begun_at, next_column, none_stepped}
pub use Rattle.rx_determinize.specs.Matching.{AreLabels, IsLabelAt, patterns_told}
pub use Rattle.rx_determinize.specs.Models.{AreModels, IsAllAlone, IsExploring, IsKeyAt, IsModel, kept_in, model_row}
pub use Rattle.rx_determinize.specs.WorkLists.{AreStartRows, Interns, IsRowOf, IsWorkList, next_row, nodes}
pub use Rattle.rx_determinize.specs.Working.{IsOver, IsWorking, Keying, Met, entry_in, next_in, none_met}
pub use Rattle.rx_determinize.specs.Working.{keying}
pub use Rattle.rx_determinize.specs.Working.{states_of}
pub use Rattle.rx_determinize.specs.declared.settled.Settled.{Settled}
pub use Rattle.rx_expr.specs.Nfa.{meaning}
pub use Rattle.rx_expr.specs.NfaRows.{NamesPatterns, rows_part}
pub use Rattle.rx_spec.specs.Sizes.{build_stride, state_size}
pub use Rattle.rx_spec.specs.declared.MatchKind.{MatchKind}
pub use Rattle.rx_spec.specs.declared.Unit.{Unit}
unfoldable pub use Rattle.rx_stepper.specs.Keys.{label_of}
unfoldable pub use Rattle.rx_stepper.specs.Steppers.{stepping_of}
pub use Rattle.rx_stepper.specs.Stepping.{HasOneKeyEach, IsAlone, IsKeyOf, SpellStates, Stepping, lone_state, stepped}
pub use Rattle.rx_stepper.specs.Stepping.{unit_of}
pub use Rattle.std.proofs.Math.Nat.{mul-le-mul_left, mul-le-mul_right}

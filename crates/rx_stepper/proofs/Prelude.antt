-- What proofs take from other modules, in one module.
pub use Rattle.rx_lemmas.proofs.Every.{every-append, every-weaker, flat_map-append_of, flat_map-flat_map}
pub use Rattle.rx_lemmas.proofs.Firsts.{Apart, Apart-fresh, Contains-here, Contains-nil, Contains-there, by_test}
pub use Rattle.rx_lemmas.proofs.Firsts.{fresh_alike, fresh_append, fresh_itself, fresh_keeps, fresh_new, fresh_nil}
pub use Rattle.rx_lemmas.proofs.Firsts.{fresh_old, fresh_within, seen_if, seen_true}
pub use Rattle.rx_base.specs.FactBits.{bit, bits_of, facts_with}
pub use Rattle.rx_base.specs.Unit.{unit_number}
pub use Rattle.rx_expr.specs.Nfa.{meaning, row_of}
pub use Rattle.rx_expr.specs.declared.thompson.nfa.NFA.{NFA}
pub use Rattle.rx_lemmas.proofs.RowClosures.{closure_unfolds, graph_of, own_either, weight_of}
pub use Rattle.rx_lemmas.proofs.Uncut.{IsUncut, cut_here, cut_nowhere, uncut_more}
pub use Rattle.rx_lemmas.proofs.StackSearch.{met_falls, passed_falls, popped}
pub use Rattle.rx_lemmas.proofs.StateBounds.{few_firsts, few_more, first_few, pattern_few}
pub use Rattle.rx_spec.specs.Closures.{branches_by, closed_rows, own_by}
pub use Rattle.rx_spec.specs.declared.MatchKind.{MatchKind}
pub use Rattle.rx_spec.specs.declared.Unit.{Unit}
pub use Rattle.rx_stepper.specs.Columns.{AreGroups, AreSpans, AreUsed, IsGroup, Reads, asked_of, columns_of, led_by}
pub use Rattle.rx_stepper.specs.Columns.{list_at, next_of, only_if, read_by, takes}
pub use Rattle.rx_stepper.specs.Fits.{AreStepsOf, Fits, FitsCurrent, FitsLead, Table, table_of}
pub use Rattle.rx_stepper.specs.Gathering.{Follows, IsLeadOf, IsLone, matches_in, targets_in}
pub use Rattle.rx_stepper.specs.Keys.{are_closed, is_closed, is_key, key_of, led_of, own_of, spelled, stands}
unfoldable pub use Rattle.rx_stepper.specs.Keys.{label_of}
pub use Rattle.rx_stepper.specs.LeadIns.{IsLeadIn}
pub use Rattle.rx_stepper.specs.Leads.{IsLeast, lead_of, led, rows_by, written, written_as}
unfoldable pub use Rattle.rx_stepper.specs.Leads.{split_by, without}
pub use Rattle.rx_stepper.specs.ListedSets.{AreListed, Grown, IsListed, IsRowSpan}
pub use Rattle.rx_stepper.specs.Places.{AreMetTo, ArePlaces, no_place}
pub use Rattle.rx_stepper.specs.Searches.{IsSearched, ReachesItself, in_turn}
pub use Rattle.rx_stepper.specs.Stamps.{is_met, unmet}
unfoldable pub use Rattle.rx_stepper.specs.Steppers.{stepping_of}
pub use Rattle.rx_stepper.specs.Stepping.{IsAlone, lone_state}
pub use Rattle.rx_stepper.specs.Steps.{AreEmpty, AreSteps, IsMadeKey, IsStep, Stand, goes_on, going, going_by, made}
pub use Rattle.rx_stepper.specs.Steps.{matches_of, patterns_of, rows_in}
pub use Rattle.rx_stepper.specs.ThinRows.{AreThin, IsThin, is_end, passing_of, row_of_thin, thin_at}
pub use Rattle.rx_stepper.specs.Units.{units_of}
pub use Rattle.rx_stepper.specs.declared.current.Current.{Current}
pub use Rattle.rx_stepper.specs.declared.lead_in.LeadIn.{LeadIn}
pub use Rattle.rx_stepper.specs.declared.lead_steps.LeadSteps.{LeadSteps}
pub use Rattle.rx_stepper.specs.declared.listed_sets.ListedSet.{ListedSet}
pub use Rattle.rx_stepper.specs.declared.steps.ColumnSteps.{ColumnSteps}
pub use Rattle.rx_stepper.specs.declared.thin_row.ThinRow.{ThinRow}
pub use Rattle.std.proofs.Common.{take-append-drop}
pub use Rattle.std.specs.Prelude.{IfNone}

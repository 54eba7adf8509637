-- The settings that a plan asks for.
use Rattle.std.specs.Prelude.{false, Some}
use Rattle.rx_plan.specs.Plans.{Plan}
use Rattle.rx_spec.specs.declared.MatchKind.{MatchKind}
use Rattle.rx_build.specs.Builders.{Both}
use Rattle.rx_build.specs.Settings as dense
use Rattle.rx_expr.specs.Settings as thompson
use Rattle.rx_regex.specs.PlanTables.{match_kind_of}
use Rattle.rx_regex.specs.declared.plan_table.PlanTable.{PlanTable}

abbrev pub dense_settings : Plan → dense.Asked
dense_settings p = record {
  accelerate = Some p.accelerate;
  minimize = Some p.minimize;
  match_kind = Some MatchKind.LeftmostFirst;
  start_kind = Some p.start_kind;
  pattern_starts = Some p.pattern_starts;
  byte_classes = Some p.byte_classes;
  unicode_word = Some p.unicode_word;
  quit = Some p.quit;
  mark_starts = Some p.mark_starts;
  dfa_size_limit = Some p.dfa_limit;
  determinize_size_limit = Some p.determinize_limit;
}

-- matches may begin and end anywhere
abbrev pub thompson_settings : Plan → thompson.Asked
thompson_settings p = record thompson.nothing_asked {
  is_utf8 = Some false;
  size_limit = Some p.nfa_limit;
  line_terminator = Some p.line_terminator;
}

abbrev pub settings_of : Plan → Both
settings_of p = record { dense = dense_settings p; thompson = thompson_settings p }

-- by these a builder makes one of the plan's tables, in the direction of that
abbrev pub table_settings : Plan → PlanTable → dense.Asked
table_settings p table = record (dense_settings p) { match_kind = Some (match_kind_of table) }

abbrev pub settings_for : Plan → PlanTable → Both
settings_for p table = record { dense = table_settings p table; thompson = thompson_settings p }

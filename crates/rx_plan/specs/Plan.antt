-- The plan of the definitions that a plan of the code means.
use Rattle.std.specs.Prelude.{true, false, None}
use Rattle.rx_plan.specs.Plans as plans
use Rattle.rx_spec.specs.declared.Form.{Form}
use Rattle.rx_spec.specs.declared.StartKind.{StartKind}
use Rattle.rx_plan.specs.declared.Plan.{Plan}
use Rattle.rx_plan.specs.declared.Passage.{Passage}

abbrev pub plan_of : Plan → plans.Plan
plan_of p = record {
  start_kind = p.start_kind;
  pattern_starts = p.pattern_starts;
  byte_classes = p.byte_classes;
  quit = p.quit;
  unicode_word = p.unicode_word;
  line_terminator = p.line_terminator;
  nfa_limit = p.nfa_limit;
  dfa_limit = p.dfa_limit;
  determinize_limit = p.determinize_limit;
  minimize = p.minimize;
  accelerate = p.accelerate;
  mark_starts = p.mark_starts;
  form = p.form;
}

-- the usual plan, which a script has without a plan line
abbrev pub usual : Plan
usual = record {
  start_kind = StartKind.Both;
  pattern_starts = false;
  byte_classes = true;
  quit = 0;
  unicode_word = false;
  line_terminator = 10;
  nfa_limit = None;
  dfa_limit = None;
  determinize_limit = None;
  minimize = false;
  accelerate = true;
  mark_starts = false;
  form = Form.Dense;
  passage = Passage.Direct;
}

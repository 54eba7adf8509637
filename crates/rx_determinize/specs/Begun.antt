-- A table that is begun for an NFA and settings, what is built into it, and what refuses that.
use Rattle.std.specs.Prelude.{ℕ, ◌≡◌, Bool, false, is_some, List, length, map}
use Rattle.std.specs.List.{range_with_len}
use Rattle.rx_spec.specs.Builds.{Build}
use Rattle.rx_spec.specs.Causes.{Limits}
use Rattle.rx_spec.specs.Classes.{class_by, ends_class}
use Rattle.rx_spec.specs.Nfas.{Nfa}
use Rattle.rx_spec.specs.declared.Form.{Form}
use Rattle.rx_dense.specs.Builder.{initial}
use Rattle.rx_dense.specs.Layouts.{Layout}
use Rattle.rx_determinize.specs.declared.settled.Settled.{Settled}

-- the classes of an NFA's bytes beside a quit set, or without byte classes one for each byte
abbrev pub classes_of : Nfa → ℕ → Bool → List ℕ
classes_of nfa quit byte_classes = map (class_by (ends_class nfa quit byte_classes)) (range_with_len 0 256)

-- A table that is begun for an NFA and these settings, with its byte classes or without.
abbrev pub IsBegunWith : Nfa → Settled → Bool → Layout → Type 0
IsBegunWith nfa s byte_classes l = l ≡ initial (record {
  classes = classes_of nfa s.quit byte_classes;
  pattern_len = length nfa.start_patterns;
  start_kind = l.start_kind;
  line_terminator = nfa.line_terminator;
  pattern_starts = is_some l.pattern_starts;
  quit = s.quit;
  flags = l.flags;
})

abbrev pub IsBegun : Nfa → Settled → Layout → Type 0
IsBegun nfa s l = (byte_classes : Bool) × IsBegunWith nfa s byte_classes l

-- what is built into it
abbrev pub build_in : Nfa → Settled → Layout → Build
build_in nfa s l = record {
  nfa = nfa;
  kind = s.match_kind;
  start_kind = l.start_kind;
  pattern_starts = is_some l.pattern_starts;
  quit = s.quit;
}

-- what refuses it
abbrev pub limits_of : Settled → Bool → Limits
limits_of s byte_classes = record {
  byte_classes = byte_classes;
  form = Form.Dense;
  minimize = false;
  accelerate = false;
  dfa_size_limit = s.dfa_size_limit;
  determinize_size_limit = s.determinize_size_limit;
}

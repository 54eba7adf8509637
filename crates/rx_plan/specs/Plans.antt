-- What a plan builds of a list of expressions, why that is refused, and what is to be answered.
use Rattle.std.specs.Prelude.{ℕ, Bool, false, Option, Ok, Err, List, length}
use Rattle.rx_spec.specs.Expressions.{Expression}
use Rattle.rx_spec.specs.Queries.{Query}
use Rattle.rx_spec.specs.Found.{found}
use Rattle.rx_spec.specs.Nfas.{Nfa, nfa_of}
use Rattle.rx_spec.specs.Classes.{quit_set}
use Rattle.rx_spec.specs.Builds.{Build, power, build_settings}
use Rattle.rx_spec.specs.HalfSearches.{HalfAnswer, half_search}
use Rattle.rx_spec.specs.Joining.{Answer}
use Rattle.rx_spec.specs.Causes.{Cause, Limits, NfaFits, NfaRefused, BuildFits, BuildRefused, IsSupported}
use Rattle.rx_spec.specs.declared.Direction.{Direction}
use Rattle.rx_spec.specs.declared.Form.{Form}
use Rattle.rx_spec.specs.declared.MatchKind.{MatchKind}
use Rattle.rx_spec.specs.declared.StartKind.{StartKind}

-- How expressions are built into tables.
pub record Plan : Type 0 where
  -- which modes have starts, and whether each pattern has starts of its own
  pub start_kind : StartKind
  pub pattern_starts : Bool
  -- whether bytes that nothing tells apart share a column
  pub byte_classes : Bool
  -- the bytes at which a search quits, and whether it does at those from 0x80 on too where a row has a Unicode
  -- word assertion
  pub quit : ℕ
  pub unicode_word : Bool
  pub line_terminator : ℕ
  -- the most bytes of an NFA, of a table and of the states of a construction
  pub nfa_limit : Option ℕ
  pub dfa_limit : Option ℕ
  pub determinize_limit : Option ℕ
  pub minimize : Bool
  pub accelerate : Bool
  pub mark_starts : Bool
  pub form : Form

-- Forward the preferred match is told, for its end. In reverse all are told, anchored, for the least start.
abbrev pub kind_for : Direction → MatchKind
kind_for Direction.Forward = MatchKind.LeftmostFirst
kind_for Direction.Reverse = MatchKind.All

abbrev pub start_kind_for : Direction → StartKind → StartKind
start_kind_for Direction.Forward kind = kind
start_kind_for Direction.Reverse kind = StartKind.Anchored

abbrev pub plan_nfa : Plan → Direction → List Expression → Nfa
plan_nfa p direction es = nfa_of direction p.line_terminator false es

-- the build of one direction of a plan
abbrev pub plan_build : Plan → Direction → List Expression → Build
plan_build p direction es =
    let nfa = plan_nfa p direction es in
    record {
      nfa = nfa;
      kind = kind_for direction;
      start_kind = start_kind_for direction p.start_kind;
      pattern_starts = p.pattern_starts;
      quit = quit_set nfa p.quit p.unicode_word;
    }

-- ---- why it is refused

abbrev pub plan_limits : Plan → Limits
plan_limits p = record {
  byte_classes = p.byte_classes;
  form = p.form;
  minimize = p.minimize;
  accelerate = p.accelerate;
  dfa_size_limit = p.dfa_limit;
  determinize_size_limit = p.determinize_limit;
}

-- The NFA of one direction fits its limits and is supported.
pub record IsCompiled (p : Plan) (direction : Direction) (es : List Expression) : Type 0 where
  pub fits : NfaFits p.nfa_limit (length es) (plan_nfa p direction es)
  pub supported : IsSupported (plan_build p direction es)

-- one direction is refused, by its NFA or else by its table
abbrev pub DirectionRefused : Plan → Direction → List Expression → Cause → Type 0
DirectionRefused p direction es (Cause.NFA cause) = NfaRefused p.nfa_limit (length es) (plan_nfa p direction es) cause
DirectionRefused p direction es (Cause.DFA cause) =
    NfaFits p.nfa_limit (length es) (plan_nfa p direction es)
    × BuildRefused (plan_limits p) (plan_build p direction es) cause

-- nothing refuses it
pub record DirectionFits (p : Plan) (direction : Direction) (es : List Expression) : Type 0 where
  pub nfa : NfaFits p.nfa_limit (length es) (plan_nfa p direction es)
  pub build : BuildFits (plan_limits p) (plan_build p direction es)

-- ---- what is answered

-- what is found stands, unless the forward search has an error
abbrev pub unless_error : HalfAnswer → Answer → Answer
unless_error (Ok half_match) answer = answer
unless_error (Err error) answer = Err error

abbrev pub outcome : Plan → List Expression → Query → Answer
outcome p es q =
    let build = plan_build p Direction.Forward es in
    unless_error (half_search (power build) (build_settings build) Direction.Forward (record q { earliest = false }))
    (Ok (found es p.line_terminator q))

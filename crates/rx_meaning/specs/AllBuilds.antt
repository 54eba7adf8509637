-- The table of a plan that reports all matches, and the causes that refuse its build.
use Rattle.std.specs.Prelude.{List, length}
use Rattle.rx_spec.specs.Builds.{Build}
use Rattle.rx_spec.specs.Causes.{BuildFits, BuildRefused, NfaFits, NfaRefused}
use Rattle.rx_spec.specs.Expressions.{Expression}
use Rattle.rx_plan.specs.Plans.{Plan, plan_build, plan_limits, plan_nfa}
use Rattle.rx_spec.specs.Causes.{Cause}
use Rattle.rx_spec.specs.declared.Direction.{Direction}
use Rattle.rx_spec.specs.declared.MatchKind.{MatchKind}

-- the forward build of a plan that tells every match, and not the preferred one alone
abbrev pub all_build : Plan → List Expression → Build
all_build p es = record (plan_build p Direction.Forward es) { kind = MatchKind.All }

-- its NFA is the forward table's
abbrev pub AllRefused : Plan → List Expression → Cause → Type 0
AllRefused p es (Cause.NFA cause) = NfaRefused p.nfa_limit (length es) (plan_nfa p Direction.Forward es) cause
AllRefused p es (Cause.DFA cause) =
    NfaFits p.nfa_limit (length es) (plan_nfa p Direction.Forward es)
    × BuildRefused (plan_limits p) (all_build p es) cause

-- nothing refuses it
pub record AllFits (p : Plan) (es : List Expression) : Type 0 where
  pub nfa : NfaFits p.nfa_limit (length es) (plan_nfa p Direction.Forward es)
  pub build : BuildFits (plan_limits p) (all_build p es)

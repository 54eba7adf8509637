-- A refusal tells its cause, and no plan is both refused and built, but by a bound of the rows of sparse tables.
use Rattle.rx_spec.proofs.Prelude.{common_steps, ◌≡◌, ⊎_elim, ℕ, Bool, true, false, List, Option, refl, arith}
use Rattle.rx_spec.proofs.Prelude.{Expression, Nfa, Build, BuildCause, IsSupported, IsUnsupported, BuildFits}
use Rattle.rx_plan.specs.Plans.{Plan}
use Rattle.rx_spec.proofs.Prelude.{Cause}
use Rattle.rx_spec.specs.Causes.{NfaCause, NfaFits, NfaRefused, BuildRefused, HasTooLongRows}
use Rattle.rx_plan.specs.Plans.{DirectionFits, DirectionRefused, plan_limits}
use Rattle.rx_spec.specs.declared.Direction.{Direction}
use Rattle.rx_regex.specs.Find.{PlanFits, PlanRefused}
use Rattle.rx_regex.specs.PlanTables.{IsOfPair, TableFits, TableRefused, table_build}
use Rattle.rx_regex.specs.declared.plan_table.PlanTable.{PlanTable}
use Rattle.rx_expr.specs.Refusals.{IsRefused}
use Rattle.rx_expr.specs.declared.build_error.BuildErrorKind.{BuildErrorKind}
use Rattle.rx_expr.specs.declared.thompson.build_error.BuildError as nfa
use Rattle.rx_main.specs.Lines.{Reply, IsRefusal, TellsKind, refusal_reply}
use Rattle.rx_main.specs.Replies.{IsBounded}

pub kind_told : (Refused : Cause → Type 0) (kind : BuildErrorKind) (reply : Reply) → TellsKind kind reply
    → IsRefused Refused kind → IsRefusal Refused reply
kind_told Refused (BuildErrorKind.NFA (nfa.BuildError.TooManyPatterns given)) reply told r =
    let cause = NfaCause.TooManyPatterns given in record { cause = Cause.NFA cause; refused = r; told = told cause }
kind_told Refused (BuildErrorKind.NFA (nfa.BuildError.TooManyStates given)) reply told r =
    let cause = NfaCause.TooManyStates given in record { cause = Cause.NFA cause; refused = r; told = told cause }
kind_told Refused (BuildErrorKind.NFA (nfa.BuildError.ExceededSizeLimit limit)) reply told r =
    let cause = NfaCause.ExceededSizeLimit limit in record { cause = Cause.NFA cause; refused = r; told = told cause }
kind_told Refused (BuildErrorKind.NFA nfa.BuildError.Memory) reply told r = absurd r
kind_told Refused BuildErrorKind.Memory reply told r = absurd told
kind_told Refused _ reply told r = grind (arith, common_steps)

-- ---- refused and built

nfa_fits_not : (limit : Option ℕ) (count : ℕ) (nfa : Nfa) (cause : NfaCause)
    → NfaRefused limit count nfa cause → NfaFits limit count nfa → ⊥
nfa_fits_not limit count nfa (NfaCause.TooManyPatterns given) h fits = omega (arith, h.1, fits.patterns)
nfa_fits_not limit count nfa (NfaCause.TooManyStates given) h fits = omega (arith, h.2, fits.states)
nfa_fits_not limit count nfa (NfaCause.ExceededSizeLimit bytes) h fits = grind (arith, common_steps)

supported_not : (b : Build) → IsUnsupported b → IsSupported b → ⊥
supported_not b h supported = h.lacks (supported h.looks)

not_false : (flag : Bool) → (flag ≡ false → ⊥) → flag ≡ true
not_false true other = refl
not_false false other = absurd (other refl)

module _ (p : Plan) (es : List Expression) where
  -- a build that fits is refused by no cause but a bound of the rows of its sparse table
  abbrev IsByBound : Build → Cause → Type 0
  IsByBound b cause =
      (cause ≡ Cause.DFA BuildCause.TooManyStates) × (p.minimize ≡ true) × HasTooLongRows (plan_limits p) b

  build_by_bound : (b : Build) (cause : BuildCause) → BuildRefused (plan_limits p) b cause
      → BuildFits (plan_limits p) b → IsByBound b (Cause.DFA cause)
  build_by_bound b BuildCause.Unsupported h fits = absurd (supported_not b h fits.supported)
  build_by_bound b BuildCause.TooManyStates h fits = grind (arith, common_steps, not_false)
  build_by_bound b BuildCause.TooManyMatchPatternIDs h fits = absurd (fits.patterns h.1)
  build_by_bound b (BuildCause.DFAExceededSizeLimit limit) h fits = absurd (fits.table limit h.1 h.2)
  build_by_bound b (BuildCause.DeterminizeExceededSizeLimit limit) h fits = grind (arith, common_steps)

  by_bound : (table : PlanTable) (cause : Cause) → TableRefused p table es cause → TableFits p table es
      → IsByBound (table_build p table es) cause
  by_bound PlanTable.Forward (Cause.NFA cause) h fits = absurd (nfa_fits_not _ _ _ cause h fits.nfa)
  by_bound PlanTable.Forward (Cause.DFA cause) h fits = build_by_bound _ cause h.1 fits.build
  by_bound PlanTable.Reverse (Cause.NFA cause) h fits = absurd (nfa_fits_not _ _ _ cause h fits.nfa)
  by_bound PlanTable.Reverse (Cause.DFA cause) h fits = build_by_bound _ cause h.1 fits.build
  by_bound PlanTable.All (Cause.NFA cause) h fits = absurd (nfa_fits_not _ _ _ cause h fits.nfa)
  by_bound PlanTable.All (Cause.DFA cause) h fits = build_by_bound _ cause h.1 fits.build

  bounded : (table : PlanTable) (cause : Cause) (reply : Reply) → reply ≡ refusal_reply cause
      → IsByBound (table_build p table es) cause → IsBounded p es table reply
  bounded table cause reply told by = grind (arith, common_steps)

  pub table_bounded : (table : PlanTable) (reply : Reply) → IsRefusal (TableRefused p table es) reply
      → TableFits p table es → IsBounded p es table reply
  table_bounded table reply is fits = grind (arith, common_steps, bounded, by_bound)

  pub plan_bounded : (reply : Reply) → IsRefusal (PlanRefused p es) reply → PlanFits p es
      → (table : PlanTable) × IsOfPair table × IsBounded p es table reply
  plan_bounded reply is fits =
      ⊎_elim
      (λ (h : DirectionRefused p Direction.Forward es is.cause). (
        PlanTable.Forward,
        tt,
        bounded PlanTable.Forward is.cause reply is.told (by_bound PlanTable.Forward is.cause h fits.forward),
      ))
      (λ (h : DirectionFits p Direction.Forward es × DirectionRefused p Direction.Reverse es is.cause). (
        PlanTable.Reverse,
        tt,
        bounded PlanTable.Reverse is.cause reply is.told (by_bound PlanTable.Reverse is.cause h.1 fits.reverse),
      ))
      is.refused

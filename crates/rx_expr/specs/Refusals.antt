-- The cause of the definitions that each kind of build error names.
use Rattle.std.specs.Prelude.{Bool, true, false}
use Rattle.rx_spec.specs.Builds.{Build}
use Rattle.rx_spec.specs.Causes.{Limits, NfaCause, BuildCause, BuildRefused}
use Rattle.rx_spec.specs.Causes.{Cause}
use Rattle.rx_expr.specs.declared.thompson.build_error.BuildError as nfa
use Rattle.rx_expr.specs.declared.build_error.BuildError.{BuildError}
use Rattle.rx_expr.specs.declared.build_error.BuildErrorKind.{BuildErrorKind}

-- an NFA that is refused, as a refusal of a build
abbrev pub refused_nfa : nfa.BuildError → BuildError
refused_nfa nfa.BuildError.Memory = record { kind = BuildErrorKind.Memory }
refused_nfa (nfa.BuildError.TooManyPatterns given) =
    record { kind = BuildErrorKind.NFA (nfa.BuildError.TooManyPatterns given) }
refused_nfa (nfa.BuildError.TooManyStates given) =
    record { kind = BuildErrorKind.NFA (nfa.BuildError.TooManyStates given) }
refused_nfa (nfa.BuildError.ExceededSizeLimit limit) =
    record { kind = BuildErrorKind.NFA (nfa.BuildError.ExceededSizeLimit limit) }

-- What an NFA's refusal says: a cause that holds. Want of memory is never said so.
abbrev pub IsNfaRefused : (Cause → Type 0) → nfa.BuildError → Type 0
IsNfaRefused Refused (nfa.BuildError.TooManyPatterns given) = Refused (Cause.NFA (NfaCause.TooManyPatterns given))
IsNfaRefused Refused (nfa.BuildError.TooManyStates given) = Refused (Cause.NFA (NfaCause.TooManyStates given))
IsNfaRefused Refused (nfa.BuildError.ExceededSizeLimit limit) = Refused (Cause.NFA (NfaCause.ExceededSizeLimit limit))
IsNfaRefused Refused nfa.BuildError.Memory = ⊥

-- What a refusal says: a cause that holds, or nothing where memory ran out.
abbrev pub IsRefused : (Cause → Type 0) → BuildErrorKind → Type 0
IsRefused Refused (BuildErrorKind.NFA error) = IsNfaRefused Refused error
IsRefused Refused BuildErrorKind.Unsupported = Refused (Cause.DFA BuildCause.Unsupported)
IsRefused Refused BuildErrorKind.TooManyStates = Refused (Cause.DFA BuildCause.TooManyStates)
IsRefused Refused BuildErrorKind.TooManyMatchPatternIDs = Refused (Cause.DFA BuildCause.TooManyMatchPatternIDs)
IsRefused Refused (BuildErrorKind.DFAExceededSizeLimit limit) = Refused (Cause.DFA (BuildCause.DFAExceededSizeLimit
    limit))
IsRefused Refused (BuildErrorKind.DeterminizeExceededSizeLimit limit) =
    Refused (Cause.DFA (BuildCause.DeterminizeExceededSizeLimit limit))
IsRefused Refused BuildErrorKind.Memory = Unit {0}

-- the causes of a build whose NFA is there
abbrev pub TableRefused : Limits → Build → Cause → Type 0
TableRefused l b (Cause.NFA cause) = ⊥
TableRefused l b (Cause.DFA cause) = BuildRefused l b cause

-- whether a number or a size passes its limit
abbrev pub is_size_limit : BuildErrorKind → Bool
is_size_limit BuildErrorKind.TooManyStates = true
is_size_limit BuildErrorKind.TooManyMatchPatternIDs = true
is_size_limit (BuildErrorKind.DFAExceededSizeLimit limit) = true
is_size_limit (BuildErrorKind.DeterminizeExceededSizeLimit limit) = true
is_size_limit _ = false

-- Replies: a text of one or more lines, and a status.
use Rattle.std.specs.Prelude.{ℕ, ◌≡◌, ◌/◌, ◌%◌, List, ◌∷◌, ◌++◌, codes}
use Rattle.std.specs.Fmt.{decimal}
use Rattle.rx_spec.specs.Queries.{Match, MatchError}
use Rattle.rx_spec.specs.Causes.{BuildCause, NfaCause}
use Rattle.rx_spec.specs.Causes.{Cause}
use Rattle.rx_expr.specs.declared.build_error.BuildErrorKind.{BuildErrorKind}
use Rattle.rx_script.specs.Faults.{kind_name}
use Rattle.rx_script.specs.declared.fault.BadKind.{BadKind}
use Rattle.rx_transfer.specs.Words.{hex_code, mode_name, newline}

pub record Reply : Type 0 where
  pub text : List ℕ
  pub status : ℕ

-- ---- nothing is built

-- the words are no command, or there are more bytes than are read
abbrev pub usage_reply : Reply
usage_reply = record { text = codes "usage" ++ newline; status = 2 }

abbrev pub long_reply : Reply
long_reply = record { text = codes "long" ++ newline; status = 2 }

-- a script has a fault
abbrev pub fault_reply : ℕ → BadKind → Reply
fault_reply line kind = record {
  text = codes "bad " ++ (decimal line ++ (codes " " ++ (kind_name kind ++ newline)));
  status = 2;
}

-- ---- a build is refused

abbrev pub cause_name : Cause → List ℕ
cause_name (Cause.NFA cause) = codes "nfa"
cause_name (Cause.DFA BuildCause.Unsupported) = codes "unsupported"
cause_name (Cause.DFA BuildCause.TooManyStates) = codes "states"
cause_name (Cause.DFA BuildCause.TooManyMatchPatternIDs) = codes "matches"
cause_name (Cause.DFA (BuildCause.DFAExceededSizeLimit limit)) = codes "dfa-size"
cause_name (Cause.DFA (BuildCause.DeterminizeExceededSizeLimit limit)) = codes "det-size"

abbrev pub refusal_reply : Cause → Reply
refusal_reply cause = record { text = codes "build " ++ (cause_name cause ++ newline); status = 3 }

-- A refused build is told by its kind: by one word for any cause of an NFA, and want of memory not at all.
abbrev pub TellsKind : BuildErrorKind → Reply → Type 0
TellsKind (BuildErrorKind.NFA error) reply = (cause : NfaCause) → reply ≡ refusal_reply (Cause.NFA cause)
TellsKind BuildErrorKind.Unsupported reply = reply ≡ refusal_reply (Cause.DFA BuildCause.Unsupported)
TellsKind BuildErrorKind.TooManyStates reply = reply ≡ refusal_reply (Cause.DFA BuildCause.TooManyStates)
TellsKind BuildErrorKind.TooManyMatchPatternIDs reply =
    reply ≡ refusal_reply (Cause.DFA BuildCause.TooManyMatchPatternIDs)
TellsKind (BuildErrorKind.DFAExceededSizeLimit limit) reply =
    reply ≡ refusal_reply (Cause.DFA (BuildCause.DFAExceededSizeLimit limit))
TellsKind (BuildErrorKind.DeterminizeExceededSizeLimit limit) reply =
    reply ≡ refusal_reply (Cause.DFA (BuildCause.DeterminizeExceededSizeLimit limit))
TellsKind BuildErrorKind.Memory reply = ⊥

-- a cause of this relation is told
pub record IsRefusal (Refused : Cause → Type 0) (reply : Reply) : Type 0 where
  pub cause : Cause
  pub refused : Refused cause
  pub told : reply ≡ refusal_reply cause

-- ---- a search answers

abbrev pub match_line : Match → List ℕ
match_line m =
    codes "match "
    ++ (decimal m.pattern ++ (codes " " ++ (decimal m.start ++ (codes " " ++ (decimal m.end ++ newline)))))

abbrev pub none_line : List ℕ
none_line = codes "none" ++ newline

-- the numbers of rows of the forward and the reverse table
abbrev pub rows_line : ℕ → ℕ → List ℕ
rows_line forward reverse = codes "rows " ++ (decimal forward ++ (codes " " ++ (decimal reverse ++ newline)))

-- The halves of a plan never disagree, so no search of one ends by the last of these.
abbrev pub error_line : MatchError → List ℕ
error_line (MatchError.Quit byte offset) =
    codes "quit " ++ (hex_code (byte / 16) ∷ (hex_code (byte % 16) ∷ (codes " " ++ (decimal offset ++ newline))))
error_line (MatchError.UnsupportedAnchored mode) = codes "unsupported " ++ (mode_name mode ++ newline)
error_line (MatchError.PairMismatch forward reverse) = codes "mismatch" ++ newline

-- an error, after lines that come before it
abbrev pub error_reply : List ℕ → MatchError → Reply
error_reply lines error = record { text = lines ++ error_line error; status = 4 }

-- Why a build is refused: by the numbers of its NFA, then by its assertions, and then by any size of its states
-- and tables that passes a limit.
use Rattle.std.specs.Prelude.{ℕ, ◌≡◌, ◌≢◌, ◌-◌, ◌^◌, ◌<◌, ◌≤◌, ◌⊎◌, min, Bool, true, false, if◌then◌else◌, Option, Some}
use Rattle.std.specs.Prelude.{None, List, length, All, AllPairs}
use Rattle.rx_spec.specs.Bytes.{contains}
use Rattle.rx_spec.specs.Classes.{has_unicode_word}
use Rattle.rx_spec.specs.Nfas.{Nfa}
use Rattle.rx_spec.specs.States.{State}
use Rattle.rx_spec.specs.Builds.{Build, IsReached}
use Rattle.rx_spec.specs.Sizes.{nfa_size, determinizer_size, label_total, start_entries, build_stride, table_size}
use Rattle.rx_spec.specs.Sizes.{last_id, sparse_size, sparse_bound}
use Rattle.rx_spec.specs.declared.Form.{Form}

-- the greatest id of a row or a pattern, and how many ids there are
abbrev pub max_id : ℕ
max_id = 2 ^ 31 - 2

abbrev pub id_count : ℕ
id_count = 2 ^ 31 - 1

-- ---- the NFA

-- it has more patterns or rows than there are ids, or takes more bytes than its limit
pub data NfaCause : Type 0 where
  TooManyPatterns : (given : ℕ) → NfaCause
  TooManyStates : (given : ℕ) → NfaCause
  ExceededSizeLimit : (limit : ℕ) → NfaCause

abbrev pub IsWithin : Option ℕ → ℕ → Type 0
IsWithin None size = Unit {0}
IsWithin (Some limit) size = size ≤ limit

-- nothing refuses the NFA of so many patterns
pub record NfaFits (limit : Option ℕ) (pattern_count : ℕ) (nfa : Nfa) : Type 0 where
  pub patterns : pattern_count ≤ id_count
  pub states : length nfa.rows ≤ id_count
  pub size : IsWithin limit (nfa_size nfa)

-- the first of the causes that holds; a number of rows is told up to 2 ^ 31
abbrev pub NfaRefused : Option ℕ → ℕ → Nfa → NfaCause → Type 0
NfaRefused limit pattern_count nfa (NfaCause.TooManyPatterns given) =
    (given ≡ pattern_count) × (id_count < pattern_count)
NfaRefused limit pattern_count nfa (NfaCause.TooManyStates given) =
    (pattern_count ≤ id_count) × (given ≡ min (length nfa.rows) (2 ^ 31)) × (id_count < length nfa.rows)
NfaRefused limit pattern_count nfa (NfaCause.ExceededSizeLimit bytes) =
    (pattern_count ≤ id_count) × (length nfa.rows ≤ id_count) × (limit ≡ Some bytes) × (bytes < nfa_size nfa)

-- ---- the table

-- what of a build's table decides whether it is refused
pub record Limits : Type 0 where
  pub byte_classes : Bool
  pub form : Form
  pub minimize : Bool
  pub accelerate : Bool
  pub dfa_size_limit : Option ℕ
  pub determinize_size_limit : Option ℕ

-- So many states are reached that a size of theirs passes a limit. A construction that stops there has seen
-- some of them; every size grows with them.
pub record Exceeds (b : Build) (size : List State → ℕ) (limit : ℕ) : Type 0 where
  pub states : List State
  pub some : 0 < length states
  pub distinct : AllPairs (λ x y. x ≢ y) states
  pub reached : All (IsReached b) states
  pub over : limit < size states

-- every byte from 0x80 on is a quit byte
abbrev pub QuitsAtHigh : Build → Type 0
QuitsAtHigh b = (byte : ℕ) → 128 ≤ byte → byte ≤ 255 → contains b.quit byte ≡ true

-- a row has a Unicode word assertion, and not every byte from 0x80 on is a quit byte
pub record IsUnsupported (b : Build) : Type 0 where
  pub looks : has_unicode_word b.nfa ≡ true
  pub lacks : QuitsAtHigh b → ⊥

-- an id of a dense row, or the number of all patterns in labels, passes the greatest id
abbrev pub HasTooManyStates : Limits → Build → Type 0
HasTooManyStates l b = Exceeds b (λ states. last_id (length states) (build_stride b l.byte_classes)) max_id

abbrev pub HasTooManyPatterns : Build → Type 0
HasTooManyPatterns b = Exceeds b label_total max_id

-- the length of the rows of a sparse table does, or where it is minimized a bound of it
abbrev pub sparse_length : Limits → Build → List State → ℕ
sparse_length l b states =
    if l.minimize then sparse_bound b l.byte_classes states else sparse_size b l.byte_classes l.accelerate states

abbrev pub HasTooLongRows : Limits → Build → Type 0
HasTooLongRows l b = (l.form ≡ Form.Sparse) × Exceeds b (sparse_length l b) max_id

-- the table, or all states of the construction, take more bytes than a limit
abbrev pub IsTooLarge : Limits → Build → ℕ → Type 0
IsTooLarge l b limit =
    Exceeds b (λ states. table_size (length states) (build_stride b l.byte_classes) (start_entries b)) limit

abbrev pub IsTooCostly : Build → ℕ → Type 0
IsTooCostly b limit = Exceeds b determinizer_size limit

pub data BuildCause : Type 0 where
  Unsupported : BuildCause
  TooManyStates : BuildCause
  TooManyMatchPatternIDs : BuildCause
  DFAExceededSizeLimit : (limit : ℕ) → BuildCause
  DeterminizeExceededSizeLimit : (limit : ℕ) → BuildCause

-- the first comes before the others, of which any may be told that holds
abbrev pub BuildRefused : Limits → Build → BuildCause → Type 0
BuildRefused l b BuildCause.Unsupported = IsUnsupported b
BuildRefused l b BuildCause.TooManyStates = (IsUnsupported b → ⊥) × (HasTooManyStates l b ⊎ HasTooLongRows l b)
BuildRefused l b BuildCause.TooManyMatchPatternIDs = (IsUnsupported b → ⊥) × HasTooManyPatterns b
BuildRefused l b (BuildCause.DFAExceededSizeLimit limit) =
    (IsUnsupported b → ⊥) × (l.dfa_size_limit ≡ Some limit) × IsTooLarge l b limit
BuildRefused l b (BuildCause.DeterminizeExceededSizeLimit limit) =
    (IsUnsupported b → ⊥) × (l.determinize_size_limit ≡ Some limit) × IsTooCostly b limit

-- no row asks for more than is supported
abbrev pub IsSupported : Build → Type 0
IsSupported b = has_unicode_word b.nfa ≡ true → QuitsAtHigh b

-- Nothing refuses the build. A table that is minimized may have shorter rows than their bound says, so that
-- cause may hold all the same.
pub record BuildFits (l : Limits) (b : Build) : Type 0 where
  pub supported : IsSupported b
  pub states : HasTooManyStates l b → ⊥
  pub rows : l.minimize ≡ false → HasTooLongRows l b → ⊥
  pub patterns : HasTooManyPatterns b → ⊥
  pub table : (limit : ℕ) → l.dfa_size_limit ≡ Some limit → IsTooLarge l b limit → ⊥
  pub construction : (limit : ℕ) → l.determinize_size_limit ≡ Some limit → IsTooCostly b limit → ⊥

-- why a list of expressions is built into no table
pub data Cause : Type 0 where
  NFA : (cause : NfaCause) → Cause
  DFA : (cause : BuildCause) → Cause

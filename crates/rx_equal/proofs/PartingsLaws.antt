-- Laws of partings: a table itself, two tables turned, and what equal tables refuse.
use Rattle.rx_spec.proofs.Prelude.{common_steps, ℕ, ◌≡◌, Bool, if◌then◌else◌, Option, Some, None, Result, Ok, Err, List}
use Rattle.rx_spec.proofs.Prelude.{[], refl, ap, ap₂, sym, arith, ltb-true, ◌<◌, is_some, nat_lt, contains, Anchored}
use Rattle.rx_spec.proofs.Prelude.{Machine, StartError, has_anchored, has_unanchored, mode_error, start_error}
use Rattle.rx_spec.proofs.Prelude.{start_row, supports, Table, label_after}
use Rattle.rx_spec.specs.declared.StartKind.{StartKind}
use Rattle.rx_lemmas.proofs.Firsts.{by_test}
use Rattle.rx_lemmas.proofs.Words.{IsWord-nil}
use Rattle.rx_equal.specs.Partings.{AreAlikeBy, IsModeOf, NothingParts, answer_at, row_or}
use Rattle.rx_equal.specs.PartingsLaws.{BothHavePatternStarts, EqualQuitBytes, EqualRefusals, EqualStartKinds}
use Rattle.rx_equal.specs.PartingsLaws.{NothingPartsItself, NothingPartsTurned, PartingTurned, StartsOfNoPattern}

-- one answer of two tables that read words alike
pub alike_same : (t u : Table) (word : List ℕ) (answer : Result ℕ StartError) → t.machine ≡ u.machine
    → AreAlikeBy t u word answer answer
alike_same t u word (Ok row) same = ap (λ (m : Machine ℕ). label_after m row word) same
alike_same t u word (Err error) same = refl

pub nothing_parts_itself : NothingPartsItself
nothing_parts_itself t place is word w = alike_same t t word (answer_at t place) refl

-- ---- turned

alike_turned : (t u : Table) (word : List ℕ) (answer other : Result ℕ StartError) → AreAlikeBy t u word answer other
    → AreAlikeBy u t word other answer
alike_turned t u word (Ok x) (Ok y) e = sym e
alike_turned t u word (Err error) (Err other) e = sym e
alike_turned t u word _ _ e = e

pub nothing_parts_turned : NothingPartsTurned
nothing_parts_turned t u nothing place is word w = grind (arith, common_steps, alike_turned)

pub parting_turned : PartingTurned
parting_turned t u place word parting = grind (arith, common_steps)

-- ---- refusals

-- why a start is refused, by whether its byte quits and whether its mode has starts
abbrev mode_part : Bool → Anchored → Option StartError
mode_part supported mode = if supported then None else Some (StartError.UnsupportedAnchored mode)

abbrev byte_part : Bool → ℕ → Option StartError → Option StartError
byte_part quits byte error = if quits then Some (StartError.Quit byte) else error

module _ (t u : Table) (word : List ℕ) where
  quits_alike : (x y byte : ℕ) (mode : Anchored) (b d v w : Bool)
      → AreAlikeBy t u word (row_or (byte_part b byte (mode_part v mode)) x)
      (row_or (byte_part d byte (mode_part w mode)) y) → b ≡ d
  quits_alike x y byte mode b d v w alike = grind (arith, common_steps)

kinds_alike : (k j : StartKind) → has_unanchored k ≡ has_unanchored j → has_anchored k ≡ has_anchored j → k ≡ j
kinds_alike StartKind.Both StartKind.Both e f = refl
kinds_alike StartKind.Unanchored StartKind.Unanchored e f = refl
kinds_alike StartKind.Anchored StartKind.Anchored e f = refl
kinds_alike _ _ e f = absurd (cc)

-- whether a table has starts for a mode
abbrev supports_in : Table → Anchored → Bool
supports_in t mode = supports t.settings.start_kind (is_some t.settings.pattern_starts) mode

-- by two answers with no byte beside
supported : (t u : Table) (mode : Anchored)
    → AreAlikeBy t u [] (answer_at t (record { beside = None; mode = mode }))
    (answer_at u (record { beside = None; mode = mode })) → supports_in t mode ≡ supports_in u mode
supported t u mode alike = grind (arith, common_steps)

module _ (t u : Table) (nothing : NothingParts t u) where
  supported_in : (mode : Anchored) → IsModeOf t u mode → supports_in t mode ≡ supports_in u mode
  supported_in mode is =
      supported t u mode
      (nothing (record { beside = None; mode = mode }) (record { mode = is; beside = tt }) [] IsWord-nil)

  pattern_starts : is_some t.settings.pattern_starts ≡ is_some u.settings.pattern_starts
  pattern_starts = supported_in (Anchored.Pattern 0) (omega arith)

  start_kinds : t.settings.start_kind ≡ u.settings.start_kind
  start_kinds =
      kinds_alike t.settings.start_kind u.settings.start_kind (supported_in Anchored.No tt)
      (supported_in Anchored.Yes tt)

  quits_below : (byte : ℕ) → byte < 256 → contains t.settings.quit byte ≡ contains u.settings.quit byte
  quits_below byte h =
      let mode = Anchored.No in
      let beside : Option ℕ = Some byte in
      quits_alike t u [] (start_row t.machine t.settings beside mode) (start_row u.machine u.settings beside mode)
      byte mode (contains t.settings.quit byte) (contains u.settings.quit byte) (supports_in t mode)
      (supports_in u mode)
      (nothing (record { beside = beside; mode = mode }) (record { mode = tt; beside = h }) [] IsWord-nil)

  quit_bytes : (byte : ℕ) → contains t.settings.quit byte ≡ contains u.settings.quit byte
  quit_bytes byte = by_test (nat_lt byte 256) (λ e. quits_below byte (ltb-true byte 256 e)) (λ e. rw e refl)

  mode_errors : (mode : Anchored) → mode_error t.settings mode ≡ mode_error u.settings mode
  mode_errors mode = ap₂ (λ kind starts. mode_part (supports kind starts mode) mode) start_kinds pattern_starts

  refusals : (beside : Option ℕ) (mode : Anchored)
      → start_error t.settings beside mode ≡ start_error u.settings beside mode
  refusals None mode = mode_errors mode
  refusals (Some byte) mode = ap₂ (λ quits error. byte_part quits byte error) (quit_bytes byte) (mode_errors mode)

pub equal_start_kinds : EqualStartKinds
equal_start_kinds t u nothing = start_kinds t u nothing

pub both_have_pattern_starts : BothHavePatternStarts
both_have_pattern_starts t u nothing = pattern_starts t u nothing

pub equal_quit_bytes : EqualQuitBytes
equal_quit_bytes t u nothing = quit_bytes t u nothing

pub equal_refusals : EqualRefusals
equal_refusals t u nothing = refusals t u nothing

-- ---- tables without patterns

pub starts_of_no_pattern : StartsOfNoPattern
starts_of_no_pattern t u n has none = grind (arith, common_steps, supported)

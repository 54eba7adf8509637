-- Where a search starts: by the byte beside its span, on the side where reading begins, and by its mode.
use Rattle.std.specs.Prelude.{ℕ, Bool, true, false, is_some, if◌then◌else◌, Option, Some, None}
use Rattle.rx_spec.specs.Bytes.{contains}
use Rattle.rx_spec.specs.Queries.{Anchored}
use Rattle.rx_spec.specs.Machines.{Machine, Settings}
use Rattle.rx_spec.specs.declared.Start.{Start}
use Rattle.rx_spec.specs.declared.StartKind.{StartKind}

abbrev pub has_unanchored : StartKind → Bool
has_unanchored StartKind.Anchored = false
has_unanchored _ = true

abbrev pub has_anchored : StartKind → Bool
has_anchored StartKind.Unanchored = false
has_anchored _ = true

-- whether there are starts for a mode; those of patterns don't ask the start kind
abbrev pub supports : StartKind → Bool → Anchored → Bool
supports kind pattern_starts Anchored.No = has_unanchored kind
supports kind pattern_starts Anchored.Yes = has_anchored kind
supports kind pattern_starts (Anchored.Pattern k) = pattern_starts

-- the start context that the byte beside the span gives, where there is one
abbrev pub start_context : Settings → Option ℕ → Start
start_context s None = Start.Text
start_context s (Some byte) = s.start_of_byte byte

-- why there is no start: the byte beside the span can't be searched, or the mode has no starts
pub data StartError : Type 0 where
  Quit : (byte : ℕ) → StartError
  UnsupportedAnchored : (mode : Anchored) → StartError

abbrev pub mode_error : Settings → Anchored → Option StartError
mode_error s mode =
    if supports s.start_kind (is_some s.pattern_starts) mode then None else Some (StartError.UnsupportedAnchored mode)

-- The byte is looked at first.
abbrev pub start_error : Settings → Option ℕ → Anchored → Option StartError
start_error s None mode = mode_error s mode
start_error s (Some byte) mode = if contains s.quit byte then Some (StartError.Quit byte) else mode_error s mode

-- the row where a search begins that isn't refused
abbrev pub start_row : {R : Type 0} → Machine R → Settings → Option ℕ → Anchored → R
start_row m s beside mode = m.entry mode (start_context s beside)

-- Why a search has no answer, as the definitions have it.
use Rattle.rx_spec.specs.Queries.{Anchored, MatchError}
use Rattle.rx_base.specs.declared.search.Anchored.{Anchored as Mode}
use Rattle.rx_base.specs.declared.match_error.MatchErrorKind.{MatchErrorKind}
use Rattle.rx_base.specs.Search.{mode_of}

abbrev pub error_of : MatchErrorKind → MatchError
error_of (MatchErrorKind.Quit byte offset) = MatchError.Quit byte offset
error_of (MatchErrorKind.UnsupportedAnchored mode) = MatchError.UnsupportedAnchored (mode_of mode)
error_of (MatchErrorKind.PairMismatch forward reverse) = MatchError.PairMismatch forward reverse

-- and back: each of these errors is one kind
abbrev pub anchored_of : Anchored → Mode
anchored_of Anchored.No = Mode.No
anchored_of Anchored.Yes = Mode.Yes
anchored_of (Anchored.Pattern k) = Mode.Pattern k

abbrev pub kind_of : MatchError → MatchErrorKind
kind_of (MatchError.Quit byte offset) = MatchErrorKind.Quit byte offset
kind_of (MatchError.UnsupportedAnchored mode) = MatchErrorKind.UnsupportedAnchored (anchored_of mode)
kind_of (MatchError.PairMismatch forward reverse) = MatchErrorKind.PairMismatch forward reverse

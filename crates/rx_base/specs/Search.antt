-- Where a match may begin, as the definitions have it.
use Rattle.std.specs.Prelude.{ℕ, Option, Some, None}
use Rattle.rx_spec.specs.Queries.{Anchored}
use Rattle.rx_base.specs.declared.search.Anchored.{Anchored as Mode}

abbrev pub mode_of : Mode → Anchored
mode_of Mode.No = Anchored.No
mode_of Mode.Yes = Anchored.Yes
mode_of (Mode.Pattern k) = Anchored.Pattern k

-- the one pattern of a mode that names one
abbrev pub named_pattern : Anchored → Option ℕ
named_pattern (Anchored.Pattern k) = Some k
named_pattern _ = None

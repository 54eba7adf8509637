-- Words of the lines that commands write.
use Rattle.std.specs.Prelude.{ℕ, ◌+◌, nat_lt, if◌then◌else◌, List, [], ◌∷◌, ◌++◌, codes}
use Rattle.std.specs.Fmt.{decimal}
use Rattle.rx_spec.specs.Queries.{Anchored}
use Rattle.rx_wire.specs.Kinds.{Kind}

-- how a line ends
abbrev pub newline : List ℕ
newline = 10 ∷ []

-- a lower-case hexadecimal digit
abbrev pub hex_code : ℕ → ℕ
hex_code digit = if nat_lt digit 10 then 48 + digit else 87 + digit

-- where a match may begin
abbrev pub mode_name : Anchored → List ℕ
mode_name Anchored.No = codes "no"
mode_name Anchored.Yes = codes "yes"
mode_name (Anchored.Pattern k) = codes "p" ++ decimal k

-- The word of a test that an image fails. Want of memory is no test, and is never told.
abbrev pub test_name : Kind → List ℕ
test_name Kind.Generic = codes "generic"
test_name Kind.BufferTooSmall = codes "buffer"
test_name (Kind.VersionMismatch expected found) = codes "version"
test_name (Kind.EndianMismatch expected found) = codes "endian"
test_name (Kind.LabelMismatch expected) = codes "label"
test_name (Kind.PatternID attempted) = codes "pattern"
test_name (Kind.StateID attempted) = codes "state"
test_name Kind.Memory = []

-- Laws of what parts two tables, and of evidence that nothing does.
use Rattle.std.specs.Prelude.{ℕ, ◌≡◌, ◌<◌, ◌≤◌, is_some, Option, Some, None, List, [], IfSome}
use Rattle.rx_spec.specs.Bytes.{contains}
use Rattle.rx_spec.specs.Queries.{Anchored}
use Rattle.rx_spec.specs.Machines.{IsWord}
use Rattle.rx_spec.specs.Starts.{start_error}
use Rattle.rx_spec.specs.Tables.{Table, IsTable}
use Rattle.rx_base.specs.StartConfig.{StartConfig}
use Rattle.rx_equal.specs.declared.evidence.Link.{Link}
use Rattle.rx_equal.specs.Partings.{AreAlikeBy, IsParting, NothingParts, answer_at}
use Rattle.rx_equal.specs.Evidence.{AreEvidence}

-- nothing parts a table from itself
abbrev pub NothingPartsItself : Type 0
NothingPartsItself = (t : Table) → NothingParts t t

-- the order of two tables doesn't count
abbrev pub NothingPartsTurned : Type 0
NothingPartsTurned = (t u : Table) → NothingParts t u → NothingParts u t

abbrev pub PartingTurned : Type 0
PartingTurned = (t u : Table) (place : StartConfig) (word : List ℕ) → IsParting t u place word
    → IsParting u t place word

-- ---- where nothing parts two tables, they refuse the same starts

-- both support searches without an anchor or neither does, and so for anchored ones
abbrev pub EqualStartKinds : Type 0
EqualStartKinds = (t u : Table) → NothingParts t u → t.settings.start_kind ≡ u.settings.start_kind

-- both have starts of patterns or neither has; how many may differ
abbrev pub BothHavePatternStarts : Type 0
BothHavePatternStarts = (t u : Table) → NothingParts t u
    → is_some t.settings.pattern_starts ≡ is_some u.settings.pattern_starts

-- the same bytes can't be searched
abbrev pub EqualQuitBytes : Type 0
EqualQuitBytes = (t u : Table) → NothingParts t u → (byte : ℕ)
    → contains t.settings.quit byte ≡ contains u.settings.quit byte

-- so each start is refused alike, in every mode: also that of a pattern past the last of either table
abbrev pub EqualRefusals : Type 0
EqualRefusals = (t u : Table) → NothingParts t u → (beside : Option ℕ) (mode : Anchored)
    → start_error t.settings beside mode ≡ start_error u.settings beside mode

-- A table with starts of patterns and one without are parted at pattern 0, even if neither has a pattern.
abbrev pub StartsOfNoPattern : Type 0
StartsOfNoPattern = (t u : Table) (n : ℕ) → t.settings.pattern_starts ≡ Some n → u.settings.pattern_starts ≡ None
    → IsParting t u (record { beside = None; mode = Anchored.Pattern 0 }) []

-- ---- where tables have pattern starts only for their own patterns, their places are all that counts

abbrev pub HasOwnStarts : Table → Type 0
HasOwnStarts t = (n : ℕ) → t.settings.pattern_starts ≡ Some n → n ≤ t.pattern_len

-- a start of any mode is alike: that of a pattern past the last is refused by both tables, or dead in both
abbrev pub NoStartParts : Type 0
NoStartParts = (t u : Table) → IsTable t → IsTable u → HasOwnStarts t → HasOwnStarts u → NothingParts t u
    → (place : StartConfig) → IfSome place.beside (λ byte. byte < 256) → (word : List ℕ) → IsWord word
    → AreAlikeBy t u word (answer_at t place) (answer_at u place)

-- and what equals an equal table is equal
abbrev pub NothingPartsPassedOn : Type 0
NothingPartsPassedOn = (t u v : Table) → IsTable t → IsTable u → IsTable v → HasOwnStarts t → HasOwnStarts u
    → HasOwnStarts v → NothingParts t u → NothingParts u v → NothingParts t v

-- ---- evidence

-- where links are evidence, nothing parts two tables
abbrev pub EvidenceSuffices : Type 0
EvidenceSuffices = (t u : Table) (links : List Link) → AreEvidence t u links → NothingParts t u

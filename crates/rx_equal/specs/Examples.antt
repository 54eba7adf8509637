-- Small tables, what parts them, and links that are evidence or are none.
use Rattle.std.specs.Prelude.{ℕ, ◌≡◌, ◌<◌, ◌==◌, ◌&&◌, ◌||◌, true, false, if◌then◌else◌, nat_lt, Option, Some, None}
use Rattle.std.specs.Prelude.{List, [], ◌∷◌, All}
use Rattle.rx_spec.specs.Queries.{Anchored}
use Rattle.rx_spec.specs.Machines.{Label, label_of}
use Rattle.rx_spec.specs.Tables.{Table, IsSound, is_match_label}
use Rattle.rx_spec.specs.declared.Start.{Start}
use Rattle.rx_spec.specs.declared.StartKind.{StartKind}
use Rattle.rx_spec.specs.declared.Unit.{Unit}
use Rattle.rx_base.specs.StartConfig.{StartConfig}
use Rattle.rx_equal.specs.declared.evidence.Link.{Link}
use Rattle.rx_equal.specs.Partings.{IsParting, NothingParts}
use Rattle.rx_equal.specs.Evidence.{AreEvidence}

-- the start row of a mode: patterns have dead ones
abbrev pub start_of_mode : Anchored → ℕ
start_of_mode (Anchored.Pattern k) = 0
start_of_mode mode = 2

-- quit, a row that tells a list of patterns, and two that tell nothing
abbrev pub told_by : List ℕ → ℕ → Label
told_by told row = if row == 1 then Label.Quits else (if row == 3 then label_of told else Label.Plain)

-- A table of four rows: dead, quit, the start, and a row that tells a list of patterns. Every byte leads from the start
-- to one row. The end of input leads to dead, and so does every unit from another row.
abbrev pub four_rows : ℕ → Option ℕ → ℕ → List ℕ → Table
four_rows pattern_len pattern_starts to told = record {
  size = 4;
  machine = record {
    entry = λ mode start. start_of_mode mode;
    next = λ row unit. if nat_lt unit 256 && (row == 2) then to else 0;
    label = told_by told;
    is_dead = λ row. row == 0;
  };
  settings = record {
    start_kind = StartKind.Both;
    pattern_starts = pattern_starts;
    start_of_byte = λ byte. Start.NonWordByte;
    quit = 0;
  };
  has_empty = false;
  is_utf8 = false;
  is_always_start_anchored = true;
  pattern_len = pattern_len;
  is_accelerated = λ row. false;
  needles = λ row. [];
  is_start = λ row. row == 2;
  is_special = λ row. (row == 0) || (row == 1) || is_match_label (told_by told row) || false || (row == 2);
  universal_unanchored = None;
  universal_anchored = None;
}

-- such a table is sound
abbrev pub FourRowsAreSound : Type 0
FourRowsAreSound = (pattern_len : ℕ) (pattern_starts : Option ℕ) (to : ℕ) (told : List ℕ)
    → to < 4 → All (λ k. k < pattern_len) told → IsSound (four_rows pattern_len pattern_starts to told)

-- without an anchor, at the edge of a text
abbrev pub at_edge : StartConfig
at_edge = record { beside = None; mode = Anchored.No }

-- ---- Two tables without patterns: one has pattern starts, for 0 patterns, and the other has none.

abbrev pub no_patterns : Option ℕ → Table
no_patterns pattern_starts = four_rows 0 pattern_starts 0 []

abbrev pub PatternZeroParts : Type 0
PatternZeroParts =
    IsParting (no_patterns (Some 0)) (no_patterns None) (record { beside = None; mode = Anchored.Pattern 0 }) []

-- no word parts them in another mode
abbrev pub PatternZeroAlone : Type 0
PatternZeroAlone = (place : StartConfig) (word : List ℕ)
    → IsParting (no_patterns (Some 0)) (no_patterns None) place word → place.mode ≡ Anchored.Pattern 0

-- It doesn't count how many patterns have starts if these are dead.
abbrev pub MoreDeadStarts : Type 0
MoreDeadStarts = NothingParts (no_patterns (Some 0)) (no_patterns (Some 5))

-- ---- Two tables of two patterns. Both tell a match after one byte, but of different patterns, or in another order. So
-- ---- a word of one byte parts them.

abbrev pub telling : List ℕ → Table
telling told = four_rows 2 None 3 told

abbrev pub WhichPatternParts : Type 0
WhichPatternParts = IsParting (telling (0 ∷ [])) (telling (1 ∷ [])) at_edge (97 ∷ [])

abbrev pub OrderParts : Type 0
OrderParts = IsParting (telling (0 ∷ 1 ∷ [])) (telling (1 ∷ 0 ∷ [])) at_edge (97 ∷ [])

-- the empty word doesn't
abbrev pub NoByteNoParting : Type 0
NoByteNoParting = ¬ IsParting (telling (0 ∷ [])) (telling (1 ∷ [])) at_edge []

-- one table quits where the other is dead
abbrev pub QuitParts : Type 0
QuitParts = IsParting (four_rows 0 None 1 []) (four_rows 0 None 0 []) at_edge (97 ∷ [])

-- one table goes on to a row that tells nothing, where the other is dead: that doesn't count
abbrev pub SilentRowIsDead : Type 0
SilentRowIsDead = NothingParts (four_rows 0 None 3 []) (four_rows 0 None 0 [])

-- ---- Links for a table and itself: the start rows, where a byte leads from them, and where the end of input leads.

abbrev pub three_links : List Link
three_links = Link.Start at_edge ∷ Link.Next 0 (Unit.Byte 97) ∷ Link.Next 0 Unit.Eoi ∷ []

abbrev pub one_pattern : Table
one_pattern = telling (0 ∷ [])

abbrev pub ThreeLinksSuffice : Type 0
ThreeLinksSuffice = AreEvidence one_pattern one_pattern three_links

-- Less is no evidence, although the tables are equal: the start rows are missing, or where the end of input leads.
abbrev pub NoStartNoEvidence : Type 0
NoStartNoEvidence = ¬ AreEvidence one_pattern one_pattern []

abbrev pub NoNextNoEvidence : Type 0
NoNextNoEvidence =
    ¬ AreEvidence one_pattern one_pattern (Link.Start at_edge ∷ Link.Next 0 (Unit.Byte 97) ∷ [])

-- Links are no evidence either if one of them refers to no earlier link, or if the rows tell different patterns.
abbrev pub NoPairNoEvidence : Type 0
NoPairNoEvidence = ¬ AreEvidence one_pattern one_pattern (Link.Next 0 (Unit.Byte 97) ∷ three_links)

abbrev pub OtherPatternNoEvidence : Type 0
OtherPatternNoEvidence = ¬ AreEvidence one_pattern (telling (1 ∷ [])) three_links

-- Tables: machines with numbered rows, and what makes one safe to search.
use Rattle.std.specs.Prelude.{ℕ, ◌≡◌, ◌≢◌, ◌<◌, ◌≤◌, ◌==◌, ◌||◌, Bool, true, false, not, Option, Some, List, [], length}
use Rattle.std.specs.Prelude.{filter, Contains}
use Rattle.std.specs.List.{range_with_len}
use Rattle.rx_spec.specs.Bytes.{contains}
use Rattle.rx_spec.specs.Queries.{Anchored}
use Rattle.rx_spec.specs.Machines.{Label, Machine, run, Settings}
use Rattle.rx_spec.specs.declared.Start.{Start}

-- A table of m rows, numbered from 0 on. Row 0 is dead, row 1 is quit. What a machine tells of a
-- number past the last row has no meaning.
pub record Table : Type 0 where
  pub size : ℕ
  pub machine : Machine ℕ
  pub settings : Settings
  -- whether some pattern matches without a byte, whether matches inside a character are passed over,
  -- whether every match begins at the text's edge, and how many patterns there are
  pub has_empty : Bool
  pub is_utf8 : Bool
  pub is_always_start_anchored : Bool
  pub pattern_len : ℕ
  -- from which rows a search may skip, and the bytes that lead such a row elsewhere
  pub is_accelerated : ℕ → Bool
  pub needles : ℕ → List ℕ
  -- which rows are marked as start rows
  pub is_start : ℕ → Bool
  -- at which rows a search has more to do than go on
  pub is_special : ℕ → Bool
  -- one start row for all contexts, without and with an anchor
  pub universal_unanchored : Option ℕ
  pub universal_anchored : Option ℕ

-- Its entries, universal starts and next rows are rows, and a pattern past the last starts at dead; dead
-- alone ends a walk, leads to dead and tells nothing; quit alone quits, and leads to dead.
pub record IsTable (t : Table) : Type 0 where
  pub two : 2 ≤ t.size
  pub entries : (mode : Anchored) (start : Start) → t.machine.entry mode start < t.size
  pub universal_unanchored : (row : ℕ) → t.universal_unanchored ≡ Some row → row < t.size
  pub universal_anchored : (row : ℕ) → t.universal_anchored ≡ Some row → row < t.size
  pub nexts : (row unit : ℕ) → row < t.size → unit < 257 → t.machine.next row unit < t.size
  pub past_last : (n k : ℕ) (start : Start)
      → t.settings.pattern_starts ≡ Some n → n ≤ k → t.machine.entry (Anchored.Pattern k) start ≡ 0
  pub dead_only : (row : ℕ) → row < t.size → t.machine.is_dead row ≡ (row == 0)
  pub dead_label : t.machine.label 0 ≡ Label.Plain
  pub dead_stays : (unit : ℕ) → unit < 257 → t.machine.next 0 unit ≡ 0
  pub quit_label : t.machine.label 1 ≡ Label.Quits
  pub quit_ends : (unit : ℕ) → unit < 257 → t.machine.next 1 unit ≡ 0
  pub quit_only : (row : ℕ) → row < t.size → t.machine.label row ≡ Label.Quits → row ≡ 1
  pub lists : (row : ℕ) → row < t.size → t.machine.label row ≢ Label.Matches []

-- whether a row is a match row, by its label alone
abbrev pub is_match_label : Label → Bool
is_match_label (Label.Matches patterns) = true
is_match_label _ = false

abbrev pub is_match : Table → ℕ → Bool
is_match t row = is_match_label (t.machine.label row)

-- the bytes on which a row doesn't lead to itself, in rising order
abbrev pub leaving : Table → ℕ → List ℕ
leaving t row = filter (λ byte. not (t.machine.next row byte == row)) (range_with_len 0 256)

-- A table is sound where it is safe to search: the end mark quits nowhere, a search begins at rows that tell
-- nothing, patterns are numbers of patterns, needles are exactly the bytes that leave, one to three of them,
-- and the special rows are those that a search has to look at.
pub record IsSound (t : Table) : Type 0 where
  pub is_table : IsTable t
  pub eoi_goes_on : (row : ℕ) → row < t.size → t.machine.next row 256 ≢ 1
  pub starts_plain : (mode : Anchored) (start : Start) → t.machine.label (t.machine.entry mode start) ≡ Label.Plain
  pub patterns : (row : ℕ) (ks : List ℕ) (k : ℕ)
      → row < t.size → t.machine.label row ≡ Label.Matches ks → Contains ks k → k < t.pattern_len
  pub needles : (row : ℕ) → row < t.size → t.is_accelerated row ≡ true → t.needles row ≡ leaving t row
  pub some_needle : (row : ℕ) → row < t.size → t.is_accelerated row ≡ true → 1 ≤ length (t.needles row)
  pub few_needles : (row : ℕ) → row < t.size → t.is_accelerated row ≡ true → length (t.needles row) ≤ 3
  pub no_needle : (row : ℕ) → row < t.size → t.is_accelerated row ≡ false → t.needles row ≡ []
  pub special : (row : ℕ) → row < t.size
      → t.is_special row ≡ ((row == 0) || (row == 1) || is_match t row || t.is_accelerated row || t.is_start row)

-- the row to which a word leads from a start
abbrev pub row_after : Table → Anchored → Start → List ℕ → ℕ
row_after t mode start word = run t.machine.next (t.machine.entry mode start) word

-- Searches begin alike under two settings: what they say of bytes is the same.
pub record SameSettings (s r : Settings) : Type 0 where
  pub start_kind : s.start_kind ≡ r.start_kind
  pub pattern_starts : s.pattern_starts ≡ r.pattern_starts
  pub start_of_byte : (byte : ℕ) → byte < 256 → s.start_of_byte byte ≡ r.start_of_byte byte
  pub quit : (byte : ℕ) → byte < 256 → contains s.quit byte ≡ contains r.quit byte

-- Two tables are the same where they agree on all that has a meaning: on rows below their size, on units and
-- on bytes.
pub record AreSame (t u : Table) : Type 0 where
  pub size : t.size ≡ u.size
  pub settings : SameSettings t.settings u.settings
  pub entries : (mode : Anchored) (start : Start) → t.machine.entry mode start ≡ u.machine.entry mode start
  pub nexts : (row unit : ℕ) → row < t.size → unit < 257 → t.machine.next row unit ≡ u.machine.next row unit
  pub labels : (row : ℕ) → row < t.size → t.machine.label row ≡ u.machine.label row
  pub deads : (row : ℕ) → row < t.size → t.machine.is_dead row ≡ u.machine.is_dead row
  pub has_empty : t.has_empty ≡ u.has_empty
  pub is_utf8 : t.is_utf8 ≡ u.is_utf8
  pub is_always_start_anchored : t.is_always_start_anchored ≡ u.is_always_start_anchored
  pub pattern_len : t.pattern_len ≡ u.pattern_len
  pub accelerated : (row : ℕ) → row < t.size → t.is_accelerated row ≡ u.is_accelerated row
  pub needles : (row : ℕ) → row < t.size → t.needles row ≡ u.needles row
  pub starts : (row : ℕ) → row < t.size → t.is_start row ≡ u.is_start row
  pub specials : (row : ℕ) → row < t.size → t.is_special row ≡ u.is_special row
  pub universal_unanchored : t.universal_unanchored ≡ u.universal_unanchored
  pub universal_anchored : t.universal_anchored ≡ u.universal_anchored

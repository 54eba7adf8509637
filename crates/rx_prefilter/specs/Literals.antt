-- Literals with which the matches of a search begin, and the rows of the automaton of Knuth, Morris and Pratt for one:
-- a walk stands at row k where the literal's first k bytes were read last, and no more of them.
use Rattle.std.specs.Prelude.{◌≡◌, ℕ, ◌+◌, ◌-◌, ◌<◌, ◌≤◌, false, List, [], length, slice_index}
use Rattle.std.specs.Prelude.{All, None}
use Rattle.rx_spec.specs.Bytes.{eoi}
use Rattle.rx_spec.specs.HalfSearches.{walk}
use Rattle.rx_spec.specs.Ids.{row_of}
use Rattle.rx_spec.specs.Machines.{Label}
use Rattle.rx_spec.specs.Queries.{Query, is_done}
use Rattle.rx_spec.specs.Splits.{half_unsplit, skips_splits}
use Rattle.rx_spec.specs.Tables.{Table}
use Rattle.rx_spec.specs.declared.Direction.{Direction}
use Rattle.rx_search.specs.Starts.{IsId, IsStart}
use Rattle.rx_search.specs.Walks.{IsInSpan, units_left}
use Rattle.rx_prefilter.specs.declared.literal.Literal.{Literal}
use Rattle.rx_prefilter.specs.declared.search.Passed.{Passed}

-- the literal's first k bytes and one more byte end with its first j bytes
pub record EndsWith (literal : List ℕ) (k byte j : ℕ) : Type 0 where
  pub few : j ≤ k + 1
  pub last : 0 < j → slice_index literal (j - 1) ≡ byte
  pub before : (i : ℕ) → i + 1 < j → slice_index literal (k + 1 - j + i) ≡ slice_index literal i

-- the most of its first bytes with which they end
pub record IsLongest (literal : List ℕ) (k byte j : ℕ) : Type 0 where
  pub within : j ≤ length literal
  pub ends : EndsWith literal k byte j
  pub most : (i : ℕ) → EndsWith literal k byte i → i ≤ j

-- from row k a byte leads to the row of so many
pub record LeadsOn (t : Table) (literal : List ℕ) (at : ℕ → ℕ) (k byte : ℕ) : Type 0 where
  pub len : ℕ
  pub is_longest : IsLongest literal k byte len
  pub there : t.machine.next (at k) byte ≡ at len

-- From row 0 a walk tells nothing before it has read the literal: the rows are those of the literal, and none of them
-- tells anything. The last row before the end of the literal has no needles.
pub record IsLiteral (t : Table) (literal : List ℕ) (at : ℕ → ℕ) : Type 0 where
  pub some : 0 < length literal
  pub leads : (k byte : ℕ) → k < length literal → byte < 256 → LeadsOn t literal at k byte
  pub plain : (k : ℕ) → k ≤ length literal → t.machine.label (at k) ≡ Label.Plain
  pub alive : (k : ℕ) → k < length literal → t.machine.is_dead (at k) ≡ false
  pub silent : (k : ℕ) → k < length literal → t.machine.label (t.machine.next (at k) eoi) ≡ Label.Plain
  pub no_needles : t.needles (at (length literal - 1)) ≡ []

-- rows by their ids
abbrev pub rows_at : (ids rows : List ℕ) → ℕ → ℕ
rows_at ids rows k = row_of ids (slice_index rows k)

-- one row more than bytes
pub record AreRows (ids : List ℕ) (literal : Literal) : Type 0 where
  pub count : length literal.rows.items ≡ length literal.bytes.items + 1
  pub are_ids : All (IsId ids) literal.rows.items

-- each match of a forward search begins with the literal
pub record BeginsAll (t : Table) (ids : List ℕ) (q : Query) (literal : Literal) : Type 0 where
  pub goes : is_done q ≡ false
  pub whole : skips_splits t ≡ false
  pub start : IsStart t Direction.Forward q (rows_at ids literal.rows.items 0)
  pub rows : AreRows ids literal
  pub is_literal : IsLiteral t literal.bytes.items (rows_at ids literal.rows.items)

-- ---- searches that are under way

-- a forward search stands at a row and an offset, and told nothing up to there
pub record IsGoing (t : Table) (q : Query) (row offset : ℕ) : Type 0 where
  pub in_span : IsInSpan q offset
  pub answer : half_unsplit t Direction.Forward q
      ≡ walk t.machine Direction.Forward q.earliest row offset None (units_left Direction.Forward q offset)

-- so it does at the id of a row without needles
pub record IsStopped (t : Table) (ids : List ℕ) (q : Query) (id offset : ℕ) : Type 0 where
  pub is_id : IsId ids id
  pub going : IsGoing t q (row_of ids id) offset
  pub no_needles : t.needles (row_of ids id) ≡ []

-- how it went on from an offset: back at the row where it started, some bytes later, or it stopped
abbrev pub IsPassed : Table → (ids : List ℕ) → Query → (start from : ℕ) → Passed → Type 0
IsPassed t ids q start from (Passed.Back offset) = IsGoing t q (row_of ids start) offset × (from < offset)
IsPassed t ids q start from (Passed.Stopped id offset) = IsStopped t ids q id offset

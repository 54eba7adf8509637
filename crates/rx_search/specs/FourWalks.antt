-- Four walks over a block of a haystack, one over each part of 1,024 bytes.
use Rattle.std.specs.Prelude.{ℕ, ◌≡◌, ◌≤◌, ◌+◌, false, List, slice_index}
use Rattle.rx_spec.specs.Ids.{row_of}
use Rattle.rx_spec.specs.Tables.{Table}
use Rattle.rx_spec.specs.declared.Direction.{Direction}
use Rattle.rx_search.specs.Passing.{Leads}
use Rattle.rx_search.specs.Starts.{IsId}
use Rattle.rx_search.specs.declared.parts.Passed.{Passed}
use Rattle.rx_search.specs.declared.parts.Rows.{Rows}

pub record AreIdsOf (ids : List ℕ) (rows : Rows) : Type 0 where
  pub first : IsId ids rows.first
  pub second : IsId ids rows.second
  pub third : IsId ids rows.third
  pub fourth : IsId ids rows.fourth

-- one byte of each part led each walk on
pub record AreLed (t : Table) (ids haystack : List ℕ) (at : ℕ) (rows next : Rows) : Type 0 where
  pub first : row_of ids next.first ≡ t.machine.next (row_of ids rows.first) (slice_index haystack at)
  pub second : row_of ids next.second ≡ t.machine.next (row_of ids rows.second) (slice_index haystack (at + 1024))
  pub third : row_of ids next.third ≡ t.machine.next (row_of ids rows.third) (slice_index haystack (at + 2048))
  pub fourth : row_of ids next.fourth ≡ t.machine.next (row_of ids rows.fourth) (slice_index haystack (at + 3072))

pub record AreOrdinary (t : Table) (ids : List ℕ) (rows : Rows) : Type 0 where
  pub first : t.is_special (row_of ids rows.first) ≡ false
  pub second : t.is_special (row_of ids rows.second) ≡ false
  pub third : t.is_special (row_of ids rows.third) ≡ false
  pub fourth : t.is_special (row_of ids rows.fourth) ≡ false

-- each walk has read so many bytes of its part, from the row in which it entered it
pub record AreWalks (t : Table) (ids haystack : List ℕ) (from count : ℕ) (entries rows : Rows) : Type 0 where
  pub first : Leads t Direction.Forward haystack (row_of ids entries.first) from (row_of ids rows.first) count
  pub second : Leads t Direction.Forward haystack (row_of ids entries.second) (from + 1024)
      (row_of ids rows.second) count
  pub third : Leads t Direction.Forward haystack (row_of ids entries.third) (from + 2048) (row_of ids rows.third) count
  pub fourth : Leads t Direction.Forward haystack (row_of ids entries.fourth) (from + 3072)
      (row_of ids rows.fourth) count

-- Where four walks have read their parts, one walk from the first one's entry comes so far.
pub record JoinsTo (entries exits : Rows) (passed : Passed) : Type 0 where
  pub leads : (t : Table) (ids haystack : List ℕ) (from : ℕ) → AreWalks t ids haystack from 1024 entries exits
      → Leads t Direction.Forward haystack (row_of ids entries.first) from (row_of ids passed.row) passed.count
  pub is_id : (ids : List ℕ) → AreIdsOf ids exits → IsId ids passed.row
  pub within : passed.count ≤ 4096

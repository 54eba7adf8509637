-- Walks over bytes that lead to ordinary rows alone.
use Rattle.std.specs.Prelude.{ℕ, zero, suc, ◌≡◌, ◌<◌, ◌≤◌, ◌+◌, false, true, List}
use Rattle.rx_spec.specs.Machines.{Machine}
use Rattle.rx_spec.specs.Tables.{Table}
use Rattle.rx_spec.specs.Queries.{Query}
use Rattle.rx_spec.specs.declared.Direction.{Direction}
use Rattle.rx_search.specs.Needles.{byte_ahead, offset_after}
use Rattle.rx_search.specs.Walks.{bytes_left}

-- the row to which so many bytes of a haystack lead from a row and an offset
unfoldable pub row_on : Machine ℕ → Direction → List ℕ → (row offset : ℕ) → ℕ → ℕ
row_on m direction haystack row offset zero = row
row_on m direction haystack row offset (suc n) =
    m.next (row_on m direction haystack row offset n)
    (byte_ahead direction haystack (offset_after direction offset n))

-- So many bytes lead from a row and an offset to a row, and none of them to a special one.
pub record Leads (t : Table) (direction : Direction) (haystack : List ℕ) (row offset next count : ℕ) : Type 0 where
  pub next_is : next ≡ row_on t.machine direction haystack row offset count
  pub ordinary : (k : ℕ) → k < count
      → t.is_special (row_on t.machine direction haystack row offset (k + 1)) ≡ false

-- Of the bytes from an offset on so many are passed over, all of them or up to one that leads to a special row.
pub record IsFarthest (t : Table) (direction : Direction) (haystack : List ℕ) (row offset count bytes : ℕ) : Type 0
  where
    pub stops : count < bytes → t.is_special (row_on t.machine direction haystack row offset (count + 1)) ≡ true

-- A walk passes from a row and an offset of a span to others, over bytes that lead to ordinary rows.
pub record Passes (t : Table) (direction : Direction) (q : Query) (row from next to : ℕ) : Type 0 where
  pub count : ℕ
  pub leads : Leads t direction q.haystack row from next count
  pub there : to ≡ offset_after direction from count
  pub enough : count ≤ bytes_left direction q from

-- Laws of tables and of the ids of their rows.
use Rattle.std.specs.Prelude.{◌≡◌, ◌≢◌, ℕ, ◌*◌, ◌^◌, ◌<◌, ◌↔◌, true, Some, List, Contains}
use Rattle.std.specs.List.Sorted.{IsStrictlyIncreasing}
use Rattle.rx_spec.specs.Bytes.{AreBytes}
use Rattle.rx_spec.specs.Queries.{Query}
use Rattle.rx_spec.specs.Machines.{run}
use Rattle.rx_spec.specs.Tables.{Table, IsTable, IsSound, AreSame, leaving}
use Rattle.rx_spec.specs.Ids.{AreIds, id_of, row_of, dense_ids}
use Rattle.rx_spec.specs.HalfSearches.{half_search}
use Rattle.rx_spec.specs.Overlapping.{overlapping}
use Rattle.rx_spec.specs.declared.Direction.{Direction}

-- a universal start past the rows is no start
abbrev pub StrayUnanchored : Type 0
StrayUnanchored = (t : Table) → IsTable (record t { universal_unanchored = Some t.size }) → ⊥

abbrev pub StrayAnchored : Type 0
StrayAnchored = (t : Table) → IsTable (record t { universal_anchored = Some t.size }) → ⊥

-- Being the same is an equivalence of tables.
abbrev pub SameAsItself : Type 0
SameAsItself = (t : Table) → AreSame t t

abbrev pub SameTurned : Type 0
SameTurned = (t u : Table) → AreSame t u → AreSame u t

abbrev pub SamePassedOn : Type 0
SamePassedOn = (t u v : Table) → AreSame t u → AreSame u v → AreSame t v

-- what is the same as a sound table is one, and searches of bytes answer the same in both
abbrev pub SameIsTable : Type 0
SameIsTable = (t u : Table) → AreSame t u → IsTable t → IsTable u

abbrev pub SameIsSound : Type 0
SameIsSound = (t u : Table) → AreSame t u → IsSound t → IsSound u

abbrev pub SameHalfSearch : Type 0
SameHalfSearch = (t u : Table) → IsTable t → AreSame t u → (direction : Direction) (q : Query) → AreBytes q.haystack
    → half_search t.machine t.settings direction q ≡ half_search u.machine u.settings direction q

abbrev pub SameOverlapping : Type 0
SameOverlapping = (t u : Table) → IsTable t → AreSame t u → (direction : Direction) (q : Query) → AreBytes q.haystack
    → overlapping t.machine t.settings direction q ≡ overlapping u.machine u.settings direction q

-- The bytes that leave a row are those that don't lead it to itself, in rising order.
abbrev pub LeavingExactly : Type 0
LeavingExactly = (t : Table) (row byte : ℕ) → byte < 256
    → Contains (leaving t row) byte ↔ (t.machine.next row byte ≢ row)

abbrev pub LeavingRises : Type 0
LeavingRises = (t : Table) (row : ℕ) → IsStrictlyIncreasing (leaving t row)

-- So between the needles of an accelerated row every byte leads it to itself: a search may skip to the next one.
abbrev pub BetweenNeedles : Type 0
BetweenNeedles = (t : Table) (row : ℕ) (bytes : List ℕ) → IsSound t → row < t.size → t.is_accelerated row ≡ true
    → AreBytes bytes → ((byte : ℕ) → Contains bytes byte → Contains (t.needles row) byte → ⊥)
    → run t.machine.next row bytes ≡ row

-- a row's id names it, and so does the row of an id
abbrev pub RowOfId : Type 0
RowOfId = (size : ℕ) (ids : List ℕ) (row : ℕ) → AreIds size ids → row < size → row_of ids (id_of ids row) ≡ row

abbrev pub IdOfRow : Type 0
IdOfRow = (size : ℕ) (ids : List ℕ) (id : ℕ) → AreIds size ids → Contains ids id → id_of ids (row_of ids id) ≡ id

-- those of a dense table are multiples of its stride
abbrev pub DenseIds : Type 0
DenseIds = (size stride2 : ℕ) → AreIds size (dense_ids size stride2)

abbrev pub DenseId : Type 0
DenseId = (size stride2 row : ℕ) → row < size → id_of (dense_ids size stride2) row ≡ row * 2 ^ stride2

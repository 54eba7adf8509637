-- what proofs take from other modules
pub mod Prelude
-- where each row lies after exchanges
pub mod ExchangedRows
-- tables whose rows have changed places
pub mod Renamed
-- the ids of the places, listed by rows
pub mod NewIds
-- the rows of a dense table as lists, exchanged and renamed
pub mod RowLists
-- rows while they are moved, one exchange after another
pub mod Moved
-- rows that lie in order already
pub mod InPlace
-- rows in the order of their kinds
pub mod ByKind
-- a walk over the rows of a table
pub mod DepthFirst
-- tables whose rows were moved and renamed
pub mod Reordered
-- kinds as numbers, and ranges of ids
pub mod KindNumbers
-- where the ends of kinds tell the special ids
pub mod KindRanges
-- which rows and ids are special
pub mod Ordered
-- rows that are marked by their ids
pub mod MarkedRows
-- the patterns of match rows, and what each row tells
pub mod MatchRows
-- words through a table whose rows have other names, and that it is sound
pub mod Runs
-- tables in order that are sound
pub mod Sound
-- maps in which lists of patterns are inserted one after another
pub mod InsertedLists
-- shuffled tables
pub mod Shuffled
-- the bytes that lead a row elsewhere
pub mod Leaving
-- rows in order, of which it is known which match and from which a search may skip
pub mod Sorted
-- match rows that stay in their places
pub mod KeptLists
-- tables no row of which is skipped from
pub mod Unskipped
-- accelerated tables
pub mod Accelerating
-- the units of each column
pub mod UsedColumns

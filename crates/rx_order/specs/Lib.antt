-- rows and start entries, and what their calls make of them
pub mod Transitions
-- rows that have changed places, and the names that follow them
pub mod Renaming
-- three rows, renamed by hand
pub mod Examples
-- a dense table as rows that may change places
pub mod RowLists
-- in which order the rows of a built table lie, and which of them are special
pub mod RowOrder
-- a table whose rows lie at other places
pub mod Permuted
-- what putting rows in order leaves, and what accelerating does
pub mod Ordering
-- rows while they are moved
pub mod Moved
-- rows with what decides their places
pub mod Ranks
-- rows in the order of their kinds
pub mod ByKind
-- which ids are special then
pub mod SpecialIds

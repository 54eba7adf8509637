-- what proofs take from other modules
pub mod Prelude
-- words of units against words of columns
pub mod ColumnWords
-- what a table of blocks says
pub mod Quotients
-- the blocks' numbers, one row after another
pub mod Renumbered
-- labels and their numbers
pub mod LabelLists
-- how many rows there are
pub mod Shaped
-- a dense table as the refinement sees it
pub mod ColumnMoves
-- the ids that rows get
pub mod NewIds
-- rows that are kept under other ids
pub mod JoinedRows
-- where the kinds of the rows that are left end
pub mod KeptEnds
-- the kinds of the rows that are left
pub mod KeptKinds
-- a table of which the first row of each block is left
pub mod JoinedTables
-- the kinds of its rows, and their order
pub mod LeftKinds
-- what `minimize` leaves
pub mod Minimizing

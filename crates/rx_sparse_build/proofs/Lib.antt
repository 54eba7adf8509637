-- sums over rows
pub mod Sums
-- tests of nodes decide whether they are one
pub mod SameNodes
-- ranges are runs of nodes
pub mod Runs
-- the rows of a powerset machine are its nodes
pub mod PowerRows
pub mod PowerRanges
-- what rows have beside ranges: needles and patterns
pub mod Needles
pub mod Patterns
-- the states behind the rows of a table that gives a build
pub mod ReachedStates
-- how long rows are, and what they are at most
pub mod RowLens
pub mod Bounds
-- how long the rows of a powerset machine are
pub mod Lengths
-- special ids of tables whose rows lie in order
pub mod Ordered
-- what refuses a sparse table
pub mod Limits
-- a sparse table says what its dense one says
pub mod Served
-- tests of all elements and rows of places, and rows of a range of ids
pub mod Places
pub mod RangeRows
-- kinds of rows, labels and ranges of ids, by their tests
pub mod KindTests
pub mod StartEntries
-- the tests of an image: rows, special rows, start rows, lists of patterns, needles; and all together
pub mod WholeRows
pub mod WholeSpecial
pub mod WholeStarts
pub mod WholeLists
pub mod WholeAccels
pub mod Whole
-- so each built table has a layout that can be read
pub mod BuiltTables
-- special rows: their offsets lie as their dense ids do
pub mod RenamedSpecial
-- where a row leads by its ranges
pub mod RangesLead
-- what is known of a sparse table, and so: each row passes its tests, and all parts together
pub mod Ready
pub mod TestedRows
pub mod ClosedTables
-- so the sparse table of each dense one that can be read can be read too, and each that is built
pub mod SparseWhole
pub mod BuiltSparseTables
-- the special ids of a dense table that can be read
pub mod DenseSpecial

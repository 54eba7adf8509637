-- the bytes of numbers
pub mod WordBytes
-- how many bytes rows have
pub mod RowLengths
-- the bytes of rows are read back
pub mod RowTexts
pub mod RowPlaces
-- kinds of rows by their ids
pub mod RowKinds
-- what a decoded row answers
pub mod DecodedRows
-- the ranges of dense rows are read
pub mod ReadRanges
-- the ranges of dense rows lead where their columns lead
pub mod DenseRanges
-- the sparse table of a dense one is the same
pub mod SparseTables
-- the bytes of rows are put one behind another
pub mod WrittenRows
pub mod SparseShapes
-- a sparse table on its way
pub mod SparseBytes

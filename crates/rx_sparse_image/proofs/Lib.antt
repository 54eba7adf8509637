-- how many bytes parts have
pub mod Sizes
-- the parts of a row among its bytes, and written in another order
pub mod Pieces
-- numbers that are tested one after another
pub mod Passes
-- bytes that were decoded are those of what was decoded
pub mod DecodedBytes
-- a row that was read: each test of a part, and what they say of the row
pub mod ReadRows
pub mod TestedRows
-- rows that were read one behind another
pub mod PassedRows
-- closing tests: the row that its parts make, bytes that leave a row, tests of each row with its offset
pub mod PartsOfRows
pub mod LeavingBytes
pub mod EachRow
pub mod RowsAhead
-- rows by their ids
pub mod RowIds
-- what they say, and so: what can be read is a sparse table, and sound
pub mod ClosedRows
pub mod ShapedImages
pub mod SoundImages
-- rows are read again; what is true of a layout that was read; and a whole image is read again
pub mod RowsAgain
pub mod ReadLayouts
pub mod WholeAgain
-- images whose parts and rows were read can be searched
pub mod ReadImages

-- dense tables that can be read can be made sparse

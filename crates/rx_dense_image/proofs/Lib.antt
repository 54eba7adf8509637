-- columns of rounds; reading: the test without a branch, strides, the columns of rows
pub mod WordBytes
pub mod Collected
pub mod Strides
pub mod ColumnMasks
-- rows and accelerators that were read
pub mod Padding
pub mod Accelerators
-- closing tests: lists of patterns by counts, rows of a range, bytes that leave a row
pub mod StrangerCounts
pub mod AccelRows
pub mod LeavingRows
-- what the closing tests say, and so: what is read is a dense table, and sound
pub mod ClosedFacts
pub mod ShapedImages
pub mod IdTables
pub mod SoundImages
-- writing: how many bytes parts have
pub mod ImageLengths
-- what was written is read again: the head and rows; lists; marks; the whole
pub mod ReadAgain
pub mod ListsAgain
pub mod MarksAgain
pub mod WholeAgain

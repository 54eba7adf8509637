-- the numbers, classes and bytes of rows
pub mod RowBytes
-- rows, one behind another, each with its tests
pub mod Walks
-- where rows begin
pub mod RowSets
-- what must hold of all parts together
pub mod Closing
-- whole images: the bytes of a layout, and the layout of some bytes
pub mod Images
-- rows that passed their tests, and layouts that can be read
pub mod Tested
-- parts that stay where they lie
pub mod Reading
-- rows of known bytes, to be written in another order
pub mod Turned

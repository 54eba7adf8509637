-- rows as ranges, and their bytes
pub mod Rows
-- a table's lists and numbers, and the table that they mean
pub mod Layouts
pub mod Facts
-- the parts of which a table is made
pub mod Parts
-- the sparse table of a dense one, and how it is made
pub mod Sparse
pub mod Reading

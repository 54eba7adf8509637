-- in the order of an image: the head
pub mod Heads
-- the rows
pub mod Rows
-- the words of rows, in bulk
pub mod Bulk
-- the patterns of match rows
pub mod PatternLists
-- special ids, needles and quit bytes
pub mod Marks
-- how lists of patterns are tested by counts
pub mod Counts
-- what must hold of all parts together
pub mod Closing
-- whole images: the bytes of a layout, and the layout of some bytes
pub mod Images

-- words of some bytes, tests of each number below one, classes
pub mod WordBytes
pub mod EachBelow
pub mod ClassTests
-- needles and the bytes that pass a test; what tests of special ids say, and that of rows that have ids
pub mod LeavingBytes
pub mod SpecialTests
pub mod IdTables
-- writing: parts that stand one behind another, how many bytes parts have
pub mod Behind
pub mod PartLengths
-- what was written is read again: heads and words, start tables, special ids
pub mod ReadAgain
pub mod TablesAgain
pub mod SpecialAgain

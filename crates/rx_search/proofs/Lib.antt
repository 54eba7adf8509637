-- a row of a sound table
pub mod Standing
-- needles, and skips to them
pub mod Needles
-- what is left of a span, and where a walk over it stops
pub mod Walks
pub mod Counting
pub mod Progress
-- half searches
pub mod Halves
pub mod InSpan
-- cursors, which keep the table that they were made for
pub mod Cursors
-- walks over ordinary rows, at four places at once
pub mod Passing
pub mod FourWalks
-- overlapping searches
pub mod Overlaps
-- matches that split a character
pub mod Unsplit
pub mod OverlapSplits
-- sets of patterns
pub mod Collecting

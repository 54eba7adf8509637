-- ids, labels, starts
pub mod Labels
pub mod Starts
-- bytes that aren't told apart
pub mod Classes
-- walks, and what they skip
pub mod Walks
pub mod Needles
pub mod Counted
-- walks over ordinary rows, at four places at once
pub mod Passing
pub mod FourWalks
-- overlapping searches
pub mod OverlappingCalls
-- matches that split a character
pub mod SplitSearches
-- sets of patterns
pub mod Collected

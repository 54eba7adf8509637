-- the tables of a plan: what refuses them, that they serve it, and their rows
pub mod Refusals
pub mod Served
pub mod Counts
-- that they can be written and read again
pub mod Whole
-- searches of them, one and all
pub mod Searches
pub mod Iterated
-- images of both tables, and searches by them
pub mod PairImages
-- the whole search
pub mod Faults

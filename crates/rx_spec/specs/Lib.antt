-- in reading order: what an expression means
pub mod Bytes
pub mod Looks
pub mod Expressions
pub mod Ends
pub mod Matching
-- what is asked, and what is found
pub mod Queries
pub mod Found
-- Thompson's construction
pub mod Rows
pub mod Edge
pub mod Nfas
-- the subset construction
pub mod Contexts
pub mod Classes
pub mod States
pub mod Closures
pub mod Shallow
-- machines, what is built, tables
pub mod Machines
pub mod Starts
pub mod Builds
pub mod Tables
pub mod Labels
pub mod Power
pub mod Ids
-- searches
pub mod HalfSearches
pub mod Overlapping
pub mod Splits
pub mod Joining
pub mod Iterating
-- sizes, and why a build is refused
pub mod Sizes
pub mod Causes

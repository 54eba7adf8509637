-- what examples need: definitions that compute, states that are reached, tables
pub mod Computing
pub mod Reached
pub mod Letter
pub mod Everywhere
pub mod Nowhere
pub mod OverlappingExamples
-- laws, by the file of specs/ that they serve
pub mod EndsLaws
pub mod FoundLaws
pub mod RowsLaws
pub mod StatesLaws
pub mod Closures
pub mod Dead
pub mod SearchesLaws

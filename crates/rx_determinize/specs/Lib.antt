-- a table that is begun, and the rows that it gets
pub mod Begun
pub mod Building
pub mod WorkLists
pub mod Working
pub mod Adding
pub mod Constructions
pub mod Filling
pub mod Models
pub mod Matching

-- the two tables of one list of expressions
pub mod Pairs

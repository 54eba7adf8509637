-- images of two tables
pub mod Pairs
-- what reading gives
pub mod Tables

-- the tables of a plan, the settings that it asks for, and what is built by them
pub mod PlanTables
pub mod Settings
pub mod Pairs
pub mod Forms
pub mod Tables
-- one table, images of it, and images of both
pub mod Images
-- tables that can be written and read back
pub mod Written
-- pairs that are built as a plan's are
pub mod Planned
-- how many rows they have
pub mod Rows
-- what a search for a match answers
pub mod Find

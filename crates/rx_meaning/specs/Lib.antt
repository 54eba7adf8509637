-- what a forward search finds, what a search in reverse finds, and that both together find the match
pub mod Preference
pub mod Mirrored
pub mod Joined
-- tables that give builds, and where the answers of searches lie
pub mod Tables
pub mod Bounds
-- how few rows a table can have
pub mod Least
-- the table of a plan that tells all matches
pub mod AllBuilds
-- what it tells at a place of a text
pub mod AllMatches

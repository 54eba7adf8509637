-- which ids are those of special rows
pub mod Specials
-- needles, kept in words
pub mod Accels
-- a table's lists and numbers, and the table that they mean
pub mod Layouts
pub mod Facts
-- the parts of which a table is made
pub mod Parts
-- what is made ahead of the match rows
pub mod Marks
-- what a builder's calls make of a table
pub mod Builder
-- match rows that a map beside a table tells
pub mod MatchRows
pub mod Examples
-- rows and start entries, as they are handed out one by one
pub mod States

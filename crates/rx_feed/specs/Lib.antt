-- the lines that are written
pub mod Lines
-- what is read and written
pub mod Outside
-- what a piece of a text tells
pub mod Pieces
-- what the command answers, and what a run of it leaves
pub mod Replies
pub mod Run
-- examples of the lines, worked by hand
pub mod Examples

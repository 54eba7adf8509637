-- command lines, and the lines that answer them
pub mod Commands
pub mod Lines
-- what is common to the commands that read scripts, and a file for each command
pub mod Scripts
pub mod Find
pub mod Each
pub mod Image
pub mod PairImage
pub mod Check
pub mod Search
-- the search for a literal in a text that isn't kept
pub mod Seek
pub mod Scan
pub mod EqualLines
pub mod Equal
pub mod Gen
-- what is answered, and what a run leaves
pub mod Replies
pub mod Run

-- lines, words, and what words say
pub mod Pieces
pub mod Names
pub mod Tokens
pub mod Plans
-- the grammar: how a script is spelled
pub mod Grammar
-- reading, with the first fault
pub mod Faults
pub mod Items
pub mod Reading
-- what the code holds
pub mod Script

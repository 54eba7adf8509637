-- steps that may fail, taken apart
pub mod Faults
-- the functions and loops of the reader
pub mod Cut
pub mod Pairs
pub mod Ranges
pub mod ItemsAt
pub mod MadeOnto
pub mod LinesAt
-- the grammar's words: what is read is spelled so, and what is spelled so is read
pub mod Tables
pub mod Numbers
pub mod Bytes
pub mod Digits
pub mod Sets
pub mod Modes
pub mod PlanWords
pub mod SpelledLines
pub mod Phrases
pub mod ExpressionRead
pub mod ExpressionSpelled
pub mod ScriptRead
pub mod ScriptSpelled
pub mod Outcomes

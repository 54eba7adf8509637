-- the rows of an NFA as a graph
pub mod NfaGraph
-- a step, of its parts
pub mod Steps
-- how states compare
pub mod StateOrder

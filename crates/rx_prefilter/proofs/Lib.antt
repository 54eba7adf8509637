-- how much of a literal was read last
pub mod Begun
-- walks that look for a literal
pub mod Looking
-- the rows that stand for a literal's first bytes
pub mod RowsOf
-- two pieces of a literal that are compared
pub mod Pieces
-- where a literal occurs in a piece of a haystack
pub mod Occurring
-- forward searches that told nothing yet
pub mod Going
-- walks that tell one match at a row
pub mod Telling
-- walks in reverse over a literal
pub mod Backwards
-- searches with a pair of tables that search for one literal
pub mod LiteralSearches
-- worked examples
pub mod Examples
-- how a text goes on of which the last bytes are kept
pub mod Seeking
-- literals in the part of a window that belongs to a span
pub mod Showing

-- literals with which the matches of a search begin
pub mod Literals
-- pairs of tables that search for one literal and for nothing else
pub mod OnlyLiterals
-- worked examples
pub mod LiteralExamples
-- literals that are looked for in a text of which only the last bytes are kept
pub mod Seeking
-- worked examples
pub mod SeekingExamples

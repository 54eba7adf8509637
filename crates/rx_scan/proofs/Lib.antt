-- lines
pub mod LineCounts
-- the longest of what is told, and the walk that finds it
pub mod LongestMatches
pub mod LowestPatterns
pub mod LastRows
-- where tokens start
pub mod StartsKept
-- what is told of expressions
pub mod TokenMeanings
-- the tokens by the first of them
pub mod TokenSteps
pub mod TokensAreLongest

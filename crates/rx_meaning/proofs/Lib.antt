-- first successes of lists, and of lists without repetitions
pub mod FirstSuccess
pub mod FirstOccurrences
-- what the rows of an NFA give, from equations: those of an expression, of patterns, and of starts
pub mod Solution
pub mod Parts
pub mod StartRows
-- where an expression must begin with the text's edge, and when one start row serves every search
pub mod Edge
pub mod OneStart
-- a build that reads bytes, and what its starts give
pub mod Scan
pub mod NfaStarts
-- its states: closed, with their assertions decided, and a step on
pub mod Closures
pub mod StateAssertions
pub mod Steps
-- its walks for the last match, and where they begin
pub mod LastWalks
pub mod StartStates
-- forward: what a search tells is what is found (preference)
pub mod FoundWorths
pub mod ForwardSearch
-- in reverse: it tells the least start, and quits nowhere (mirrored)
pub mod OneEnd
pub mod QuitSets
pub mod QuitBytes
pub mod ReverseSearch
-- both together: a match that ends where the forward search told, also of the first end met (joined)
pub mod EndStarts
pub mod EarliestSearch
pub mod FoundStart
pub mod JoinedSearches
-- rows from which every word leads to equal labels: searches from them, and so over tables, answer alike (tables)
pub mod AlikeRows
pub mod AlikeSearches
pub mod IteratedSearches
pub mod ServedStarts
pub mod ServedSearches
-- where answers lie, and what they depend on (bounds)
pub mod TableBounds
pub mod SplitBounds
pub mod JoinBounds
pub mod SpanQueries
pub mod SpanAnswers
-- how few rows a table can have, and tables that are powerset machines (least)
pub mod Pigeonholes
pub mod Reduced
pub mod PowerTables
-- what is told from an offset on
pub mod PastOffsets
-- over a build: exactly the ends of all patterns
pub mod AllEnds
-- over a table that serves the build
pub mod ServedPlaces
pub mod AllMatches

-- lists: what holds of every element, first occurrences, the first success of a range
pub mod Every
pub mod Firsts
pub mod Ranges
-- sets of bytes, and facts of a neighbour
pub mod ByteSets
pub mod Facts
-- where matches end: with an order, without one, and read backward; what is found
pub mod Ends
pub mod Reaches
pub mod Mirrors
pub mod FoundLaws
-- rows: how many there are, where they stand, and that paths that read nothing are short
pub mod Rows
pub mod RowPlaces
pub mod ShortPaths
pub mod PathLengths
pub mod Patterns
pub mod FirstMatch
pub mod Shallows
-- powerset states: a search of a graph, closures as one, how large a state is, and up to where no row matches
pub mod GraphSearch
pub mod StackSearch
pub mod RowClosures
pub mod StateBounds
pub mod Uncut
-- words, and what walks over machines, tables and builds do with each unit
pub mod Words
pub mod SilentRows
pub mod Walking
pub mod ReadUnits
pub mod HalfSearches
pub mod Overlapping
-- where their answers come from
pub mod WalkBounds
pub mod OverlappingBounds
-- byte classes: sublists and filtered lists, numbers of classes, and that no row tells two bytes of a class apart
pub mod Sublists
pub mod Filters
pub mod ClassNumbers
pub mod Classes
-- sizes that grow with the states, one least number of rows, ids, tables that are the same
pub mod Sizes
pub mod Labels
pub mod Ids
pub mod Tables
-- searches: that no bound cuts anything off, and that all that is told lies in the span
pub mod Splits
pub mod ToldInSpan
pub mod Iterating
pub mod Joining

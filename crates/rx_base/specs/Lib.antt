-- values as the definitions have them
pub mod Unit
pub mod Search
pub mod Input
pub mod Searcher
pub mod StartConfig
pub mod MatchError
pub mod Needles
pub mod PatternSet
pub mod ByteClasses
pub mod LookSet
pub mod FactBits
-- laws that models ask for
pub mod Inverses
-- the outside
pub mod Outside
pub mod Source
pub mod Sink

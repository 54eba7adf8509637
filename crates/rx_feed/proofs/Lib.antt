-- fronts of texts
pub mod Fronts
-- lines of events
pub mod EventLines
-- pieces of a text
pub mod Pieces
-- texts in pieces, and images before them
pub mod Streams
pub mod Images
-- a law
pub mod OneAnswer

-- walks over a piece, whatever follows it
pub mod Pieces
-- what remains to be told, and what a piece makes of it
pub mod Remaining
-- what each call does
pub mod New
pub mod Feed
pub mod Finish
-- laws
pub mod Cuttings
pub mod FirstEvents
pub mod Fronts

-- what remains to be told
pub mod Remaining
-- what each call does
pub mod Calls
-- walks over a piece
pub mod Pieces
-- texts in pieces: laws, and examples
pub mod Cuttings
pub mod Examples

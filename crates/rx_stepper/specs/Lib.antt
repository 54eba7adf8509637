-- states kept as keys, and their steps
pub mod Stepping
pub mod Steppers
pub mod Keys
-- the rows of the unanchored start, with which states end, and their places
pub mod Leads
pub mod Places
pub mod LeadIns
-- closures: rows without what they read, the rows that were met, and the searches of the rows
pub mod ThinRows
pub mod Stamps
pub mod Searches
-- the columns that rows read, those that assertions don't tell apart, and what each needs for a step
pub mod Units
pub mod ByteWords
pub mod Columns
pub mod ListedSets
pub mod Steps
pub mod Gathering
-- how the parts of a stepper fit
pub mod Fits

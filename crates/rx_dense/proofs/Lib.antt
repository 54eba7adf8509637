-- rows and their ids
pub mod Rows
-- needles in words
pub mod AccelLists
-- kinds of rows by their ids
pub mod RowKinds
-- what each change leaves true of a table
pub mod Shaped
-- rows that change places or are copied
pub mod Swaps
-- rows that are renamed
pub mod Renaming
-- rows that are kept
pub mod KeptRows
-- lists of patterns
pub mod PatternLists
-- what is made ahead of the match rows
pub mod Marks
-- universal starts
pub mod UniversalStarts
-- rows, transitions and start entries, as they are handed out one by one, and ranges of classes
pub mod States
pub mod Ranges
-- start entries by their numbers
pub mod StartNumbers
-- maps of match rows
pub mod MatchMaps

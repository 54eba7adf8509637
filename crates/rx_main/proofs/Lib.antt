-- replies to what was taken
pub mod TakenReplies
-- the words of a command line, and its numerals
pub mod Counts
pub mod Numerals
pub mod CommandWords
-- runs of `feed`
pub mod FedReplies
-- builds that are refused, and the numbers of rows
pub mod Refusals
pub mod RowCounts
-- scripts that ask something
pub mod Asking
-- the search for a match
pub mod FindAnswers
-- tests of reading
pub mod CheckAnswers
-- matches one after another
pub mod Matches
-- a search of the usual plan, and of generated patterns
pub mod UsualPlan
pub mod Generated
-- searches by images of pairs
pub mod SearchAnswers
pub mod SearchFinds
-- the lines of tokens
pub mod TokenLines
pub mod ScanMatches
-- the comparison of two tables
pub mod EqualReplies
pub mod WordTexts
pub mod EqualAnswers
-- at most one reply fits
pub mod OneReply
-- searches with an image that searches for one literal
pub mod LiteralImages

-- what is read and written
pub mod Outside
-- why reading ends early
pub mod Faults
-- words of lines
pub mod Words

pub mod Lengths
pub mod ReadAgain
pub mod SecondTable

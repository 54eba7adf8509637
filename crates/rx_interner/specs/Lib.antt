pub mod Hash
pub mod Links
pub mod Entries
pub mod Index

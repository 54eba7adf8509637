-- words, and tests of each number below one
pub mod Words
pub mod Below
-- the head
pub mod Heads
-- the classes of bytes
pub mod Classes
-- start tables
pub mod StartTables
-- special ids and quit bytes
pub mod SpecialIds
pub mod QuitBytes
-- parts that are written one behind another
pub mod Written

-- bytes that are read or written one piece after another
pub mod Transfers

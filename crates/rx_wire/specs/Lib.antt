-- why an image isn't read, and what it means that bytes are read or written
pub mod Kinds
-- numbers and bytes
pub mod Fields
-- labels, and the words that tell an image's order and version
pub mod Heads

-- 16 bytes of a number
pub mod WideNumbers
-- numbers, ids and bytes are read back
pub mod Fields
-- words one behind another
pub mod Words
-- labels and the words of order and version are read back
pub mod Heads
-- one field more behind a text
pub mod Behind

-- a table of which no two rows behave alike
pub mod Minimized
-- rows that have one label
pub mod LabelNumbers
-- rows that behave alike, and the first rows of their blocks
pub mod Blocks
-- a table and its blocks
pub mod Partitioned
-- a table that keeps the first row of each block
pub mod Quotient

-- dense tables whose sparse tables are measured
pub mod Measured
-- what is built by some settings, and why it isn't
pub mod Built
-- tables whose layouts can be read
pub mod Finished

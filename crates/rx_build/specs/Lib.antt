-- what a configuration asks for
pub mod Settings
pub mod Builders
-- a table that is determinized
pub mod Determinized
-- what is built, and why it isn't
pub mod Built
-- a table on its way
pub mod Making

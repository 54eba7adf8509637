-- assertions that are met, and states as those of the definitions
pub mod Passing
pub mod PowerState
-- how states compare
pub mod Ranks

-- settings that are taken over
pub mod Settings
-- what refuses a pair
pub mod Refusals

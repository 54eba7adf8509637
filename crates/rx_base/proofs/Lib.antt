-- sets of bytes, and the classes that end at their bytes
pub mod ByteSets
pub mod Classes
-- sets of assertions
pub mod LookBits

-- starts of modes that a build leaves out
pub mod LeftOut
-- tables without accelerated rows, and without marked ones
pub mod StartMarks
-- what each step of a build keeps and adds
pub mod Stages
-- tables that are begun
pub mod Beginnings
-- what a built table tells
pub mod Served
-- rows at other places
pub mod PermutedLaws
-- tables that are put in order
pub mod DeterminizedLaws

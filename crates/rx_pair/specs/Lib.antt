-- what searches tell of a match, and an iterator of those that are left
pub mod Matches
-- half searches that stand in the middle of their span
pub mod UnderWay

-- half searches that go on from where they stand
pub mod UnderWay
-- matches one after another
pub mod Iterated

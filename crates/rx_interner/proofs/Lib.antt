-- what stands at a place of a list
pub mod Places
-- links as they are kept (links.rt)
pub mod KeptLinks
-- the newest key of a hash, how a key is found from it, and what a new key changes (interner.rt)
pub mod NewestKeys
pub mod Chains
pub mod Indexes

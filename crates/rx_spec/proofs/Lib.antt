-- what proofs take from std and from this crate
pub mod Prelude

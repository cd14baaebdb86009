-- Lemmas of the crate.
pub mod Chains
pub mod Dances
pub mod Memory
pub mod Once
pub mod Sharing
pub mod Values

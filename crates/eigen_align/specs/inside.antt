pub mod Spines
pub mod Identified

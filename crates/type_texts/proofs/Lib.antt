pub mod Ranks
pub mod Readings
pub mod Principal
pub mod Steps
pub mod Places
pub mod Noting
pub mod LineLemmas

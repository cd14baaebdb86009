pub mod Written
pub mod Opened
pub mod Heads
pub mod Chains
pub mod Pieces
pub mod Sequents

pub mod Aligned
pub mod Counts
pub mod Sequents
pub mod inside

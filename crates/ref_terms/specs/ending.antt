pub mod Bounds
pub mod Descent
pub mod Ending
pub mod Fits
pub mod Measure
pub mod OffenceLemmas
pub mod Progress
pub mod Rules

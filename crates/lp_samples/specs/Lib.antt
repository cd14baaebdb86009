pub mod Elaborator
pub mod Chain

pub mod Graph
pub mod Solved
pub mod Types
pub mod inside

pub mod Log
pub mod Pairs
pub mod inside

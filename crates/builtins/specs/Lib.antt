pub mod Laws
pub mod Moves
pub mod Outcome
pub mod inside

pub mod Folded
pub mod Order
pub mod Scopes

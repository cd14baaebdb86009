pub mod Answers
pub mod Bound
pub mod Places
pub mod Unifiers
pub mod inside

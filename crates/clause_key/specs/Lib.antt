pub mod Keys
pub mod Seen
pub mod Passing
pub mod Laws

pub mod Prepared
pub mod Searching
pub mod Sources
pub mod Typing

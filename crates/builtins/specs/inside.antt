pub mod Numbers
pub mod Pending

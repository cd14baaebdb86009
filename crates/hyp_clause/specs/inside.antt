pub mod Arguments
pub mod Words
pub mod Forms
pub mod Parts
pub mod Waiting

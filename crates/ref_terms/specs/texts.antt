pub mod Answer
pub mod Numbering
pub mod Text

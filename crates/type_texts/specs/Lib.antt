pub mod Occurring
pub mod OpenTypes
pub mod TypeLines
pub mod TypeText
pub mod inside

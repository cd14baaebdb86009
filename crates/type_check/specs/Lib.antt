pub mod Inference
pub mod Inferred
pub mod Typings
pub mod inside

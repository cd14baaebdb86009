pub mod Entries
pub mod Inference
pub mod Loops
pub mod Ordering
pub mod Sorting
pub mod Whole

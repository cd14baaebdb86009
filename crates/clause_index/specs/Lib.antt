pub mod inside
pub mod Index

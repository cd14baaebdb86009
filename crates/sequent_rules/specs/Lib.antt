pub mod Branches
pub mod Rules
pub mod Instances
pub mod inside

pub mod Builtins
pub mod Forms
pub mod Kinds

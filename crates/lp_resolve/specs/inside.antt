pub mod Build
pub mod Named
pub mod ProgramNamed
pub mod ReadsAs
pub mod Replacing
pub mod Scopes

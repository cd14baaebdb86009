pub mod DeclaredTypes
pub mod Reserved
pub mod TypeRules
pub mod inside

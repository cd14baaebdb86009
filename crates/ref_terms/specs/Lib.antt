pub mod ending
pub mod formers
pub mod laws
pub mod lemmas
pub mod search
pub mod terms
pub mod texts
pub mod unification

pub mod Front
pub mod Samples
pub mod TextLemmas
pub mod examples
pub mod rows
pub mod search
pub mod terms
pub mod unification

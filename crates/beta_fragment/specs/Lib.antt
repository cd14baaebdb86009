pub mod Body
pub mod Firm
pub mod HeadForm
pub mod Instantiation
pub mod Moves
pub mod Names
pub mod Quoted
pub mod inside

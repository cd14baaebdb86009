pub mod Demands
pub mod FreeNodes
pub mod Nodes
pub mod Read
pub mod Schemes
pub mod Typing
pub mod inside

pub mod CallerLemmas
pub mod Composing
pub mod Demanding
pub mod Examples
pub mod Instancing
pub mod Readings
pub mod Scopes

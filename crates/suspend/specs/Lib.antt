pub mod Store
pub mod Keyed
pub mod Laws
pub mod Looked
pub mod Iter
pub mod inside

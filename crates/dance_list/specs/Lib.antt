-- What the contracts of the crate cite.
pub mod Dance
pub mod inside

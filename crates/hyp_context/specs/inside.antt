pub mod Items
pub mod Found
pub mod View
pub mod Assumed

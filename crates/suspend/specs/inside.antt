pub mod Kept
pub mod Given
pub mod Queue
pub mod Waking
pub mod Renamed

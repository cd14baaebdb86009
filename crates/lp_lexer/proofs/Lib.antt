pub mod Numbers
pub mod Fits
pub mod Pieces
pub mod Lists

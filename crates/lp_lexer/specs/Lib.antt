pub mod Scan
pub mod Words
pub mod Symbols
pub mod Numbers
pub mod Pieces
pub mod Lexing

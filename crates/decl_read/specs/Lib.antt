pub mod DeclReading

pub mod AnyReading
pub mod Loaded

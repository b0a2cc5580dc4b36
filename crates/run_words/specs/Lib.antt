pub mod Job
pub mod Line
pub mod Names
pub mod Parsers
pub mod Values
pub mod Words

pub mod FaultCodes
pub mod NameTests
pub mod Names
pub mod Shapes
pub mod Spellings
pub mod Tables
pub mod Tokens

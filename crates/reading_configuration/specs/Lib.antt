pub mod Given
pub mod Keywords
pub mod Limits
pub mod Marks
pub mod Reads
pub mod Statements
pub mod Steps
pub mod FaultCodes

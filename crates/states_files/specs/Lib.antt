pub mod Fields
pub mod States
pub mod Lines
pub mod Files
pub mod Laws
pub mod Seen
pub mod Walks
pub mod FaultCodes

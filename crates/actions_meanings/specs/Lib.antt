pub mod Fails
pub mod FaultCodes
pub mod Filled
pub mod Forms
pub mod Holds
pub mod Outcomes
pub mod Reads
pub mod Walkable

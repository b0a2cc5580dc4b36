pub mod Configured
pub mod Givens
pub mod Refusals
pub mod Resolved
pub mod Standing
pub mod UnitLevels
pub mod FaultCodes

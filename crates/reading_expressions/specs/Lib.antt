pub mod Ended
pub mod Nesting
pub mod Refusals
pub mod Refused
pub mod Unended
pub mod FaultCodes

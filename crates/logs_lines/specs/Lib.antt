pub mod Setting
pub mod Values
pub mod Clocks
pub mod Lines
pub mod Files
pub mod Laws
pub mod Walks
pub mod FaultCodes

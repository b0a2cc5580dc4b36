pub mod Changes
pub mod Clocks
pub mod LineCodes
pub mod PathCodes
pub mod PathNodes
pub mod Paths
pub mod UpdateCodes

pub mod Grounds
pub mod Stable

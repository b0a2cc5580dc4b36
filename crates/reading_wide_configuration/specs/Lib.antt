pub mod Bounds
pub mod Laws
pub mod Passed
pub mod Wide

pub mod Expanded
pub mod Expansion
pub mod Given
pub mod InstanceFaults
pub mod Laws
pub mod Steps
pub mod Wide

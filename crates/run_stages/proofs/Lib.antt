pub mod Stopping
pub mod Reached
pub mod Unresolved
pub mod OnTheWay
pub mod GivenStopping
pub mod Told

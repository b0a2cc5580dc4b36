pub mod Stops
pub mod Logs
pub mod GivenStops
pub mod Resolving

pub mod Device
pub mod Failures
pub mod Memory
pub mod Reading
pub mod Texts

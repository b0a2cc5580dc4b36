pub mod Ahead
pub mod Shown

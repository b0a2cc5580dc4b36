pub mod Says
pub mod Asks
pub mod Steps
pub mod Logs

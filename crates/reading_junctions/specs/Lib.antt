pub mod Entries
pub mod Lays
pub mod Steps
pub mod Summary

pub mod Walking
pub mod Seen

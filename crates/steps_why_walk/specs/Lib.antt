pub mod Ends
pub mod Walking

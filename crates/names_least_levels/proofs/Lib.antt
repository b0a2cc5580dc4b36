pub mod Monotone
pub mod Walking

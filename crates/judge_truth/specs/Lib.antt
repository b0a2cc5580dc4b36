pub mod Deciding
pub mod Faults
pub mod Pairs
pub mod Truths

pub mod Does
pub mod Passes
pub mod Unfinished

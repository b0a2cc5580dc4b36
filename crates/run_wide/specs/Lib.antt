pub mod Lines
pub mod Needing
pub mod Passing
pub mod Answers
pub mod Laws
pub mod Parts

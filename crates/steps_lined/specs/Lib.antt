pub mod Answers
pub mod Beside
pub mod Held

pub mod Expansions
pub mod Together

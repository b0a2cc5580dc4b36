pub mod Answers
pub mod Gives
pub mod Found
pub mod Moves
pub mod Says
pub mod Kept
pub mod Repeats
pub mod Last

pub mod Heads
pub mod Laws
pub mod Lengths
pub mod Marks
pub mod Names
pub mod Pieces
pub mod Within

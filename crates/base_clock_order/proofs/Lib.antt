pub mod Counting
pub mod Merged
pub mod OneOrder
pub mod Rising

pub mod Explained
pub mod Lined
pub mod LinedLaws
pub mod Tied
pub mod TiedLaws

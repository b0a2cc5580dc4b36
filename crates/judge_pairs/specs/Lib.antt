pub mod Filling
pub mod Telling
pub mod Composing

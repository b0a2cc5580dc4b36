pub mod Library
pub mod Texts

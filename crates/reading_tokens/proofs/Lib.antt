pub mod Cuts
pub mod Tables
pub mod Choices
pub mod NameLaws

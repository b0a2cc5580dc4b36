pub mod Actions
pub mod AlikeSettings
pub mod Alikes
pub mod Outcomes

pub mod Levels
pub mod Listed
pub mod Lasts
pub mod Left
pub mod Forms
pub mod Readings
pub mod Answering

pub mod Existing
pub mod Making
pub mod Listed
pub mod Several
pub mod Decided

pub mod Decided
pub mod Nesting
pub mod Unique
pub mod LexedEnds
mod Pushes
mod Listed

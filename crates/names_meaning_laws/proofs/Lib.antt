pub mod Bits
pub mod Decided
pub mod Fine
pub mod Hiding
pub mod Known
pub mod More
pub mod Same

pub mod Rows
pub mod Way
pub mod Bodies
pub mod Listed

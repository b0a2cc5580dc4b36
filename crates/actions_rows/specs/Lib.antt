pub mod Rows
pub mod Tested

pub mod Codes
pub mod Calls
pub mod Smoke
pub mod Tested
pub mod Found
pub mod Run

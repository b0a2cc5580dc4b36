pub mod Lined
pub mod Logs
pub mod Reads

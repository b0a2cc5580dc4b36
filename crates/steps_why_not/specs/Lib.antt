pub mod Results
pub mod Lines
pub mod Whys
pub mod Taken

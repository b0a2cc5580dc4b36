pub mod Instances
pub mod Made
pub mod Renamed
pub mod Rows

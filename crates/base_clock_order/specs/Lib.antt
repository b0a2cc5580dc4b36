pub mod Orders
pub mod Stamps

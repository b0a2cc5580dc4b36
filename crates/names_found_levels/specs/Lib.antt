pub mod Found
pub mod OnTheWay
pub mod Raised

pub mod Laws
pub mod Programs
pub mod Rows
pub mod Spelled

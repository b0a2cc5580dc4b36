pub mod Choosing
pub mod Going
pub mod Naming
pub mod Marked
pub mod Small
pub mod Taking
pub mod Zips

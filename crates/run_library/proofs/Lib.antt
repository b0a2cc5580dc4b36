pub mod Found
pub mod Serving
pub mod Standing

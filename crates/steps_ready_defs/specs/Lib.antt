pub mod Ready
pub mod Beside

pub mod Lines
pub mod Readiness

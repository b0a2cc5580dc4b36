pub mod Laws
pub mod Lines
pub mod Named
pub mod Naming

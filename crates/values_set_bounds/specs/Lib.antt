pub mod Bounds
pub mod PartBounds

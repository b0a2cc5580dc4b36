pub mod Keeping
pub mod OfSpecs
pub mod Ties

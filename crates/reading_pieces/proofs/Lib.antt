pub mod Fronts
mod Lengths

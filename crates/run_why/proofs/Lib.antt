mod Counting
mod Going
mod Reaching
pub mod Reporting
mod SoFar
mod ToldBehind

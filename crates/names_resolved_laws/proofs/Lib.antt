pub mod Assumed
pub mod Fitting
pub mod Ordering
mod Parts
pub mod Readied
mod SpelledPrograms
mod SpelledTrees
pub mod Stepping

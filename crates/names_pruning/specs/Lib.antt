pub mod Answers
pub mod Laws
pub mod Needed
pub mod Parts
pub mod Pruning
pub mod Senses
pub mod Told

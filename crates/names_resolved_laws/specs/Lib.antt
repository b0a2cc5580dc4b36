pub mod InOrder
pub mod Pruning

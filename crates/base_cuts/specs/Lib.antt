pub mod CutOrder
pub mod Cuts
pub mod Extensions
pub mod Heads
pub mod Laws
pub mod Orders
pub mod Views

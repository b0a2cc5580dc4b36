pub mod Alone
pub mod Forms
pub mod Laws
pub mod Parts
pub mod Pieces
pub mod Wide

pub mod Beside
pub mod InOrder
pub mod Languages
pub mod Laws
pub mod Tied

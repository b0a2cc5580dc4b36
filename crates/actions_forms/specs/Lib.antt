pub mod Arms
pub mod Endings
pub mod Forks
pub mod Kinds
pub mod Laws
pub mod Naming
pub mod Says

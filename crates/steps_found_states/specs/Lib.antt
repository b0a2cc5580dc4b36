pub mod Walks
pub mod Grounds
pub mod Parts
pub mod Filling
pub mod Laws

pub mod Fair
pub mod Behind
pub mod Resolving
pub mod Laws
pub mod Standing

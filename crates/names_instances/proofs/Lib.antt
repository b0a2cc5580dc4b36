pub mod Adding
pub mod Items
pub mod Keeping
pub mod Rewriting

pub mod Kinds
pub mod Texts
pub mod Near
pub mod Tells
pub mod Repairs
pub mod Adding

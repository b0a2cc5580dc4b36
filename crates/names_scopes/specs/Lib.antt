pub mod Applied
pub mod FirstOperands
pub mod Mentions
pub mod Placed
pub mod Reaching
pub mod Scopes
pub mod Standing

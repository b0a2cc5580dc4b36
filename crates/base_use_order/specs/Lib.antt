pub mod Apart
pub mod Reach
pub mod Reaching
pub mod UsersReaching
pub mod Uses
pub mod Walks
pub mod Weights

pub mod Unread
pub mod Later
pub mod Parts

mod Accepting
pub mod Answering
pub mod Asking
pub mod Assuming
pub mod Checking
pub mod Deciding
pub mod Following
pub mod Held
pub mod Kept
mod Numbered
mod Placed
pub mod Places
pub mod Reading
pub mod Searching
pub mod Unseen

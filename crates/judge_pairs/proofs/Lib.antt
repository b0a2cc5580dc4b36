mod Lines
mod Orders
mod Fixed
mod Asking
mod Told
pub mod Keeping
mod Seen
mod Led
mod Answering

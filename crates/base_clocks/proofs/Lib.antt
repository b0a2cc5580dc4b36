pub mod Deciding
pub mod Numbers

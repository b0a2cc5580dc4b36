pub mod Completing
pub mod Updated
mod Stopping
mod Grounding
pub mod Telling
mod Passing
mod Seeing
mod Answering

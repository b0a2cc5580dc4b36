pub mod Beside
pub mod Flattenings
mod GivenPlaces
pub mod Programs
pub mod Refused
pub mod Seen
pub mod Spelling
pub mod Stopping
pub mod Texts
mod TokenLines
mod TokenPlaces
mod UncheckedLines

pub mod GivenPlaces
pub mod LetRows
pub mod NotRefused
pub mod Readings
pub mod Refusals

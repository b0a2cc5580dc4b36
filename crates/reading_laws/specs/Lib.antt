pub mod AnyReading
pub mod GivenPlaces
pub mod OneReading
pub mod Readings
pub mod Telling

pub mod AtMostOne
pub mod Placing
pub mod SmallTerms
pub mod Telling

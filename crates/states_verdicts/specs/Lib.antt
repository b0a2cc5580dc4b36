pub mod Asks
pub mod Cleans
pub mod Verdicts
pub mod Laws
pub mod Tellings
pub mod Founds
pub mod Passes

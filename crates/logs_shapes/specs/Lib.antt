pub mod Clocks
pub mod ClockSeen
pub mod Keys
pub mod Parts
pub mod Shapes
pub mod Seen
pub mod Objects
pub mod Fills

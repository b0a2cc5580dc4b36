mod Ends
pub mod PieceTokens
pub mod Readings
mod Bodies
pub mod Frames
mod Wholes
pub mod OneWide
pub mod Programs

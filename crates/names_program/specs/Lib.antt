pub mod Entries
pub mod InUnits
pub mod Names
pub mod Recursion
pub mod Standard
pub mod StandardRows
pub mod Told
pub mod Uses

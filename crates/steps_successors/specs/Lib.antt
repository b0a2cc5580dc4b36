pub mod Among
pub mod Taken

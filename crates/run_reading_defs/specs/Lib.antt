pub mod Texts
pub mod Reaches
pub mod Refusals
pub mod Given

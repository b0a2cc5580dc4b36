pub mod FewFiles
pub mod Given
pub mod Modules
pub mod Named
pub mod NamesDiffer
pub mod SetsMade
pub mod Spelled
pub mod WellFormed

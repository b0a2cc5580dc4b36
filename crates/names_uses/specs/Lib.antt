pub mod StrictNames
pub mod ToldLevels
pub mod UsedNames
